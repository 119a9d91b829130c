pub mod Terms
pub mod Guard
pub mod Guarded
