pub mod ListLemmas
pub mod ScanLemmas
pub mod LeastLemmas
pub mod RingLemmas
