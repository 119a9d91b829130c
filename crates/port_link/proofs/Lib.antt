pub mod Terms
pub mod CallLemmas
pub mod PlaceLemmas
pub mod JournalLemmas
pub mod StepLemmas
pub mod GiveLemmas
pub mod ShowLemmas
pub mod EndLemmas
