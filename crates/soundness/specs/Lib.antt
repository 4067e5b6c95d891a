-- Laws about the rules: cases, what entries mean, that conclusions speak of the pattern's entries, their sides, and that rules are sound.
pub mod Cases
pub mod Entries
pub mod FormedRules
pub mod Shapes
pub mod Comparing
pub mod Sound
