pub mod Built
pub mod Plain
pub mod Reached
pub mod Unbuilt
