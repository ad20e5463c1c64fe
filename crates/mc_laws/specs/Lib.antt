pub mod Progress
pub mod Fair
pub mod Order
pub mod Linear
pub mod Settling
pub mod internal
