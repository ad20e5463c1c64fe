pub mod Total
pub mod Leases
pub mod Refusal
