-- In the order of reading.
pub mod EdgeList
pub mod Made
