pub mod Terms
pub mod BesideLemmas
pub mod CallingLemmas
pub mod WritingLemmas
pub mod TextLemmas
pub mod NotesLemmas
pub mod LawLemmas
pub mod AskLemmas
