pub mod TreeLemmas
pub mod RuleLemmas
