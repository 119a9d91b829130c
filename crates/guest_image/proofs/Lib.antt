pub mod Terms
pub mod Accepted
pub mod Overlaps
pub mod Valid
pub mod Windows
pub mod Same
pub mod Examples
