pub mod CountLemmas
pub mod ItemLemmas
pub mod SplitLemmas
