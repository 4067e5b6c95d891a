-- What the entries of a pattern mean: the expressions that they stand for, 01's clauses, and the names that bear on it.
pub mod Expression
pub mod Clauses
pub mod Agreement
pub mod Names
