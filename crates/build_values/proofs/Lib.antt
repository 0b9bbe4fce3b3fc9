pub mod NumLemmas
pub mod ValueLemmas
pub mod LengthLemmas
pub mod PartLemmas
