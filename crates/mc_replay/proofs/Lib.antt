-- The lemmas of this crate.
pub mod Numbers
pub mod Splitting
pub mod Telling
