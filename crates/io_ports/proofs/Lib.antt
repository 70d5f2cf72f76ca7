pub mod ToldLemmas
pub mod SinkLemmas
pub mod KeptLemmas
pub mod InputLemmas
