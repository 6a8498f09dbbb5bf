pub mod Fitting
pub mod JointCursors
pub mod JointEntries
pub mod JointLending
pub mod Laws
pub mod UnionLaws
