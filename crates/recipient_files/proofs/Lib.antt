pub mod RecipientsLemmas
pub mod IdLemmas
pub mod TrimLemmas
pub mod RuleLemmas
pub mod ReadLemmas
pub mod SetLemmas
pub mod WrittenLemmas
