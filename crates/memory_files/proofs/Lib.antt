pub mod LogLemmas
pub mod MapLemmas
pub mod NumberLemmas
pub mod PlaceLemmas
pub mod StepLemmas
