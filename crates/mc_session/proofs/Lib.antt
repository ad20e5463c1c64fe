pub mod Fresh
pub mod Orders
pub mod Calling
pub mod Credit
pub mod Carrying
pub mod Recording
pub mod Ending
pub mod Placing
pub mod Serving
pub mod Sessions
pub mod OneLine
mod RowsCredit
