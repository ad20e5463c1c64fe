pub mod Backing
pub mod Answering
pub mod Explaining
pub mod Recording
pub mod Owing
pub mod Turning
