mod Common
pub mod Halves
pub mod Indexed
pub mod KeyWrapLaws
pub mod KeyWrapVectors
pub mod Rotations
pub mod Whole
