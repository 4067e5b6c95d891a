-- The laws of reading that rest on all of its checks.
pub mod Valid
