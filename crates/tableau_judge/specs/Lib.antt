-- The header as the code reads it, and laws.
pub mod Headers
pub mod JudgeLaws
