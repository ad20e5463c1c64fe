pub mod Program
pub mod Wrong
pub mod Flags
pub mod Numbers
pub mod Address
pub mod Calls
pub mod Faults
pub mod internal
