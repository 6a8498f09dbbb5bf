pub mod CursorLaws
pub mod Ending
pub mod EntryLaws
pub mod MergedEntries
