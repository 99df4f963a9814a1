pub mod Blanks
pub mod Canonical
pub mod Numbers
pub mod Options
pub mod Plain
pub mod RangeReader
pub mod Readers
pub mod VersionReader
