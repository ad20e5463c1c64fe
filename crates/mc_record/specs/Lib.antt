pub mod Recorder
pub mod Clerk
pub mod Opening
pub mod Closing
