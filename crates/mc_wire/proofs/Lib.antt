-- The lemmas of this crate.
pub mod Base64Octets
pub mod Base64Keys
pub mod Places
pub mod Numbers
pub mod Scanning
pub mod Splitting
pub mod Sinks
mod Rows
