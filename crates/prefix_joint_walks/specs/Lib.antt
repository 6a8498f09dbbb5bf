pub mod Coverings
pub mod Covers
pub mod Joint
pub mod JointItems
pub mod JointIterators
pub mod OwnedIterators
pub mod Unions
