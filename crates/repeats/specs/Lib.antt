pub mod Seen
pub mod Slots
pub mod Words
