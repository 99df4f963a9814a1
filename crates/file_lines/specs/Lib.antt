pub mod Ahead
pub mod Files
pub mod HandedLines
pub mod NamedFiles
pub mod Sources
