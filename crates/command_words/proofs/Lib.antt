pub mod Lookup
pub mod WordLemmas
pub mod Sorting
pub mod Steps
pub mod Taken
