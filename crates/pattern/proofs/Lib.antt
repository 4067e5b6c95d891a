pub mod Logic
pub mod File
pub mod Meaning
