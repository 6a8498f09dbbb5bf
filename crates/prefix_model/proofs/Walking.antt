pub mod PlaceOrder
pub mod Chosen
pub mod FromNode
pub mod SortedWalks
pub mod CoverLaws
pub mod Within
pub mod WalkRest
