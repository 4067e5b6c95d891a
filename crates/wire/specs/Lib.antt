pub mod Choice
pub mod Cleared
pub mod Fields
pub mod Blocks
pub mod Onto
