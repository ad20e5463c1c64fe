pub mod History
pub mod Due
pub mod Fits
pub mod Shutdown
pub mod Flow
pub mod Conn
pub mod internal
