pub mod Words
pub mod KeyFields
