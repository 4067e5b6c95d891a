-- In the order of reading.
pub mod NewFile
pub mod EdgeList
