-- Definitions that say how a type's model is made of its own fields. No contract names them.
pub mod Packed
