-- The pattern file: its bytes, its entries, and which bytes are read.
pub mod Types
pub mod Made
pub mod Table
pub mod Fields
pub mod Entries
pub mod Reading
pub mod Valid
