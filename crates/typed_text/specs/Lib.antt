-- In the order of reading.
pub mod Text
pub mod Fault
pub mod Tokens
pub mod Means
pub mod Machine
pub mod Viable
pub mod Spelled
