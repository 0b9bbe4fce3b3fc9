pub mod PlaceLemmas
pub mod ShapeLemmas
pub mod TextLemmas
pub mod KnownLemmas
pub mod NodeLemmas
pub mod PartLemmas
