pub mod Terms
pub mod TameLemmas
