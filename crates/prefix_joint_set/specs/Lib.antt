pub mod SetIterators
