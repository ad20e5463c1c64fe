pub mod Expects
pub mod Held
pub mod Joined
pub mod Length
pub mod Replies
