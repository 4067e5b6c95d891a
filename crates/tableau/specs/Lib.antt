-- In the order of reading: definitions, then that closing excludes the root. What else is proved of them stands in proofs/.
pub mod Run
pub mod Judging
pub mod Closing
pub mod Closure
pub mod Soundness
