pub mod Keys
pub mod Reading
pub mod KeyReading
pub mod KeyOrder
pub mod Results
pub mod SameKey
pub mod SameKeyLemmas
