-- The lemmas of this crate.
pub mod AmountLemmas
pub mod BacklogLemmas
mod Rows
