pub mod Stands
pub mod Steps
pub mod Reading
pub mod Resting
pub mod Held
