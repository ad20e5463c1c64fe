pub mod Zipped
pub mod Line
pub mod Ran
pub mod Served
pub mod Recording
pub mod Chain
pub mod Steps
pub mod Segments
pub mod AtSources
pub mod Parts
pub mod One
pub mod Connections
mod RowsConnections
mod StreamSent
mod RingsSent
