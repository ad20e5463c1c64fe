pub mod Loud
pub mod Ordered
pub mod Silent
mod TextRows
pub mod Digits
pub mod Texts
