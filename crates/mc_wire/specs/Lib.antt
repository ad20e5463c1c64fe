-- The definitions that the contracts of this crate cite.
pub mod Limits
pub mod Words
pub mod Number
pub mod Sink
pub mod Key
pub mod Base64Key
pub mod SameKey
pub mod internal
