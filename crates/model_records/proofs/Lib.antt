-- In the order of reading.
pub mod Rising
pub mod Valid
