pub mod ActLemmas
pub mod SignatureLemmas
pub mod LengthLemmas
pub mod KeyLemmas
