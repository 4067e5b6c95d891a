-- In the order of reading.
pub mod Typing
pub mod Findings
pub mod Written
