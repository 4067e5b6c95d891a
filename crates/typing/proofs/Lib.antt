pub mod Everywhere
pub mod Findings
