pub mod Refusal
pub mod Shapes
pub mod Texts
pub mod Known
pub mod Nodes
pub mod Values
