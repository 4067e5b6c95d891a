-- In the order of reading: definitions, then what is proved of them.
pub mod Promises
pub mod Together
pub mod Told
