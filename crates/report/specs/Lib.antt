-- In the order of reading.
pub mod Report
pub mod Readings
