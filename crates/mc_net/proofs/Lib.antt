pub mod Buffers
pub mod Comes
pub mod Sent
mod RowsForeign
