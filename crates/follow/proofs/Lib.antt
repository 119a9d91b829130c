pub mod Terms
pub mod Told
pub mod Ranges
pub mod Runs
pub mod Fronts
pub mod Stamps
pub mod Past
pub mod Reached
pub mod Agreed
pub mod Released
pub mod Behind
pub mod Placed
mod Meets
mod Examples
