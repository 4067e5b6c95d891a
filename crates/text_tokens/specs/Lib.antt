pub mod Reading
pub mod Stack
pub mod Ranged
pub mod Digits
pub mod Taking
pub mod Letters
pub mod SoFar
