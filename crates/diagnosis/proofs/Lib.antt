pub mod Terms
pub mod ExaminedLemmas
pub mod LawLemmas
