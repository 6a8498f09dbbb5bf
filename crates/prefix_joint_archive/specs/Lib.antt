pub mod Compacting
pub mod Families
pub mod Written
