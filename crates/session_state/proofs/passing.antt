pub mod PieceLemmas
pub mod GivenLemmas
pub mod PassLemmas
pub mod PassingLemmas
pub mod DueLemmas
