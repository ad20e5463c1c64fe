pub mod WorkerState
pub mod WorkerStateLaws
pub mod Turns
pub mod Marks
pub mod Serves
pub mod Scribe
pub mod internal
