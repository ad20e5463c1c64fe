-- Definitions that only the contracts of private functions name: no public contract rests on them.
pub mod Access
pub mod Cached
pub mod Found
pub mod Growing
pub mod GrowingLends
pub mod Listed
pub mod Parts
pub mod Polynomial
pub mod Secret
pub mod Stored
