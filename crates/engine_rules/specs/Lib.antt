pub mod Needs
pub mod Known
pub mod Trace
pub mod Scan
pub mod Reasons
pub mod Requested
pub mod Justified
