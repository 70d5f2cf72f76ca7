pub mod EntryLemmas
pub mod MapLemmas
pub mod FrontLemmas
pub mod GoverningLemmas
pub mod NearestLemmas
pub mod AffectedLemmas
