-- In the order of reading.
pub mod Decision
pub mod Judged
pub mod Root
pub mod Agreeing
