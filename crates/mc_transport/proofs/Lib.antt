pub mod Fronts
pub mod Standing
pub mod Turns
pub mod Along
pub mod Later
pub mod Pieces
pub mod Buffers
pub mod OneLine
pub mod Serving
pub mod More
pub mod Traces
mod RowsLazy
pub mod Clerking
pub mod Held
