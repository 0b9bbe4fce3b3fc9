pub mod CommandLine
pub mod Fault
pub mod Job
pub mod Matches
pub mod Number
