pub mod Lookup
pub mod Options
pub mod Forms
pub mod Invocations
pub mod Takes
pub mod Words
pub mod Reads
