pub mod Told
pub mod Sink
pub mod Kept
pub mod Source
pub mod Input
