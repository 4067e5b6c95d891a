-- The laws of what the entries of a pattern mean that rest on the published clauses and on the names of entries.
pub mod Agreement
pub mod Names
