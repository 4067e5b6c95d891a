-- In the order of reading.
pub mod Logic
pub mod Checks
pub mod File
pub mod Meaning
