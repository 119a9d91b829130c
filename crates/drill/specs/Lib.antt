pub mod Terms
pub mod Generator
pub mod Links
pub mod Notes
pub mod Summary
pub mod Settings
pub mod Drilling
