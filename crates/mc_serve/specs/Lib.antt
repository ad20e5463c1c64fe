pub mod Recorded
pub mod Seats
pub mod Served
pub mod Over
pub mod Connections
