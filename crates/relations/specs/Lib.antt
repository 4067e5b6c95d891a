-- What evaluation and the tables are stated and proved by. No promise to a caller of the unit rests on these definitions.
pub mod Kinds
pub mod Tables
pub mod Members
pub mod Covered
pub mod Filled
pub mod Values
