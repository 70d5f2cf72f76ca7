pub mod EntryLemmas
pub mod ListingLemmas
pub mod FileLemmas
pub mod RunLemmas
pub mod ActLemmas
pub mod MemoryLemmas
pub mod CrashLemmas
