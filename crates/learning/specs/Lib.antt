-- What learning is stated and proved by. No promise to a caller of the unit rests on these definitions.
pub mod Rows
pub mod Learns
