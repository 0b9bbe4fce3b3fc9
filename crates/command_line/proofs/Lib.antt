pub mod MatchLemmas
pub mod NumberLemmas
pub mod JobLemmas
