-- Definitions that only private contracts name.
pub mod Splits
pub mod ToAll
pub mod Left
pub mod Queue
