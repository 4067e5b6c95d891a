pub mod Enums
pub mod Listing
