pub mod Compacted
pub mod FirstItems
pub mod LeastValues
pub mod Overflow
pub mod Room
pub mod Written
pub mod NamedCauses
