pub mod Values
pub mod ValueReading
