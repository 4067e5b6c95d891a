-- What evaluation is stated and proved by. No promise to a caller of the unit rests on these definitions.
pub mod Standing
pub mod Entries
pub mod Sweep
pub mod Nodes
pub mod Evaluated
pub mod SweepEntry
pub mod Learned
pub mod Judged
