pub mod WorkerStates
pub mod Steps
pub mod Turning
pub mod Marking
pub mod Scribing
pub mod Taking
pub mod Serving
