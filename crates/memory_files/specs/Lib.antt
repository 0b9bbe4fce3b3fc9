pub mod Log
pub mod Edits
