-- Definitions that only private contracts name.
pub mod Answering
pub mod Recording
pub mod Turns
