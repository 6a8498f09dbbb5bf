pub mod SetBits
pub mod SlotLaws
pub mod PlaceBits
pub mod NodeBits
pub mod WordBits
