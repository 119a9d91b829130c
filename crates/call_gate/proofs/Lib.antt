pub mod Flags
pub mod CallLemmas
