pub mod Joining
pub mod Lowest
pub mod Words
