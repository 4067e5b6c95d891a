pub mod Enums
