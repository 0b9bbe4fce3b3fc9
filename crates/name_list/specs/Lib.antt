pub mod Text
pub mod EntryNames
pub mod ListFaults
