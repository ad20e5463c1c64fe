-- The definitions that the contracts of this crate cite.
pub mod Chain
pub mod Pool
pub mod Halves
pub mod Kept
pub mod Contents
pub mod Laws
pub mod Numbers
