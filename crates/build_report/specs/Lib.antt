pub mod Escape
pub mod ErrorText
pub mod Text
pub mod Status
