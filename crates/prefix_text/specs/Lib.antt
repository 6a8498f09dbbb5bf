pub mod Added
pub mod Commands
pub mod Forms
pub mod Generator
pub mod Lines
pub mod Printing
pub mod Rows
pub mod Texts
