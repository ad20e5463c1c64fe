pub mod Recording
pub mod Clerking
pub mod Owing
pub mod Opened
pub mod Joining
