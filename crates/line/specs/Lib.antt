pub mod Line
pub mod Spelling
pub mod Filling
pub mod LineFeed
