pub mod OptionLemmas
pub mod CountLemmas
pub mod TextLemmas
pub mod ItemLemmas
pub mod VariantLemmas
pub mod KeyLemmas
pub mod NameLemmas
pub mod OrderLemmas
