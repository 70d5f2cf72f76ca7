pub mod LineLemmas
pub mod ListLemmas
pub mod OrderLemmas
pub mod EachPart
pub mod TextLemmas
pub mod JoinLemmas
pub mod CleanLemmas
