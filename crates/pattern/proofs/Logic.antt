-- The laws of the logic that rest on its clause for comparisons of different data.
pub mod Compared
pub mod Part
