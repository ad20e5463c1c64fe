-- Definitions that only private contracts name.
pub mod Inside
pub mod Plans
pub mod Dispatcher
