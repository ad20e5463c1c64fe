pub mod Answered
pub mod Joins
pub mod Queues
mod Rows
pub mod Expecting
pub mod Written
