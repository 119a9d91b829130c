pub mod Terms
pub mod Hearing
pub mod Watch
pub mod Counts
pub mod Shown
