-- The published logic: what expressions are, what they mean in a data model, 01's finite data models, comparisons of nodes,
-- coincidence, and models that are part of another.
pub mod Syntax
pub mod Semantics
pub mod Finite
pub mod Compared
pub mod Coincidence
pub mod Part
