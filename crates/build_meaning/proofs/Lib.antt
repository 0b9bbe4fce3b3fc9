pub mod FreshLemmas
pub mod OrderlyLemmas
pub mod MakerLemmas
