-- What the functions of the walk promise each other, and laws.
pub mod Straight
pub mod StraightLaws
pub mod Walk
pub mod WalkLaws
