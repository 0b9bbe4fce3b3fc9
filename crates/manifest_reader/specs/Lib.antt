pub mod Rows
pub mod Commands
pub mod Sections
pub mod Load
