-- The definitions that the contracts of this crate cite.
pub mod Text
pub mod Header
pub mod Event
pub mod Schedule
pub mod Report
pub mod Replay
pub mod internal
