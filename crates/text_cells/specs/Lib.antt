-- In the order of reading.
pub mod Building
pub mod Held
pub mod Cells
pub mod Built
