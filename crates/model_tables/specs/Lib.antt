-- What the tables are proved by.
pub mod Entries
pub mod Successors
pub mod Tables
pub mod Picked
pub mod Buckets
pub mod Values
pub mod Stands
