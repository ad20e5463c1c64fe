-- Definitions that only private contracts name.
pub mod Steps
pub mod Eight
pub mod Parity
pub mod KeptBytes
