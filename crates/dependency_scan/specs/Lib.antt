pub mod Steps
pub mod Ring
