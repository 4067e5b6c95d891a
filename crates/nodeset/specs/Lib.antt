pub mod Below
pub mod Lists
pub mod Bits
pub mod Set
pub mod Stored
pub mod Members
pub mod Filtered
