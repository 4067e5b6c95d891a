-- How the code stores lines: no promise of the unit needs it.
pub mod Stored
