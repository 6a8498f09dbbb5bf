pub mod Archives
pub mod ArchivedViews
pub mod Causes
pub mod Coverage
pub mod Iterating
pub mod Nodes
pub mod ViewLaws
