pub mod Spelling
pub mod internal
pub mod Reader
