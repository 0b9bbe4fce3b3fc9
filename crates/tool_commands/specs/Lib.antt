pub mod Program
pub mod Acts
pub mod InputKeys
pub mod Signatures
