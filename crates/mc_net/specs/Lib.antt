pub mod Flow
pub mod One
pub mod Foreign
pub mod Beginning
pub mod Tcp
pub mod Arrivals
pub mod Known
