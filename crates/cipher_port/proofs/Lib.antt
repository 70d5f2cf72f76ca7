pub mod StandinLemmas
pub mod StandinAgain
