-- What is proved of the definitions: the run of a tableau ties to closing, what the counts are, and that closing excludes the root.
pub mod RunCloses
pub mod JudgingCloses
pub mod Counting
pub mod Finite
