-- In an order for reading.
pub mod Iteration
pub mod LiveViews
pub mod LiveLaws
pub mod Laws
pub mod Pairs
