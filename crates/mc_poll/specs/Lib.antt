pub mod SetBits
pub mod Poller
pub mod Zips
