pub mod Ids
pub mod IdText
pub mod Changes
pub mod RuleText
pub mod RuleReads
