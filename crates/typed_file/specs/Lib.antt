-- In the order of reading.
pub mod Trees
pub mod Entries
pub mod Completion
pub mod Formed
pub mod ValidEntries
pub mod RootLast
pub mod ValidFile
pub mod Carried
