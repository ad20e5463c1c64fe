pub mod Asked
pub mod Feeding
pub mod Stands
pub mod Runs
pub mod Rings
pub mod Laid
