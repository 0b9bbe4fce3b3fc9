pub mod StepLemmas
pub mod NewLemmas
pub mod SameLemmas
pub mod WalkLemmas
pub mod MakerLemmas
pub mod FreeLemmas
pub mod DepsLemmas
pub mod RuledLemmas
