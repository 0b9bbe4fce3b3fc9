pub mod Spelling
pub mod Splits
