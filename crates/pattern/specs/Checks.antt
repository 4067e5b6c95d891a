-- The documents' findings, and checks in a chain: the first that refuses decides.
pub mod Tests
pub mod Finding
pub mod Range
