-- Definitions that only private contracts name; no public contract depends on them.
pub mod Told
