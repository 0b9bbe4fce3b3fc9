pub mod Commands
pub mod Fresh
pub mod Need
pub mod Unique
pub mod Orderly
