pub mod GuestLemmas
pub mod NoteLemmas
pub mod SendLemmas
pub mod ServeLemmas
pub mod TakeLemmas
pub mod SaveLemmas
pub mod ChoiceLemmas
pub mod RecordingLemmas
