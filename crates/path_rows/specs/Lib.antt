-- What the rows of paths are stated and proved by. No promise to a caller of the unit rests on these definitions.
pub mod Paths
