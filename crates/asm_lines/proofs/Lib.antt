pub mod Terms
mod Examples
pub mod Cutting
pub mod Clipping
pub mod Parting
