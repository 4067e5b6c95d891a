-- In the order of reading.
pub mod Layout
pub mod Contents
pub mod Order
pub mod Checks
pub mod Rising
pub mod Valid
pub mod Front
pub mod OneFile
