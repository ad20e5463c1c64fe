-- Definitions that only private contracts name.
pub mod CasCounts
pub mod FlagReading
pub mod FlagsAsked
pub mod WordTable
