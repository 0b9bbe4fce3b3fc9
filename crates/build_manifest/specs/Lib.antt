pub mod Distinct
pub mod Places
pub mod Command
pub mod Makers
pub mod Has
pub mod Manifest
pub mod Rules
pub mod Judged
