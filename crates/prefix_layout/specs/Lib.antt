pub mod Errors
pub mod Spans
pub mod Reads
pub mod Writing
pub mod Codecs
