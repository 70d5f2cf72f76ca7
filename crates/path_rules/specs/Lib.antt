pub mod RuleMap
pub mod Changes
pub mod Governing
pub mod Affected
pub mod Limits
