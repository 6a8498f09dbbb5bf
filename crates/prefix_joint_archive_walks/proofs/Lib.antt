pub mod ZeroHostBits
