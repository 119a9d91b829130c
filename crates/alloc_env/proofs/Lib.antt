pub mod Terms
pub mod Frees
pub mod Mallocs
