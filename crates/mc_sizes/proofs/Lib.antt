mod Corners
pub mod Within
