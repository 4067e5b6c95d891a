-- In the order of reading.
pub mod Placing
pub mod Completing
pub mod Opening
pub mod Stack
