-- In the order of reading: definitions, then what is proved of them.
pub mod Packed
pub mod Unpacked
pub mod Narrow
