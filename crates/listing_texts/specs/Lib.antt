pub mod Lines
pub mod Tree
pub mod MountLines
pub mod RuleLines
