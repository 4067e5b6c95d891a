-- In the order of reading.
pub mod Ordering
pub mod Findings
pub mod Rows
pub mod Written
