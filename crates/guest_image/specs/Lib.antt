pub mod Memory
pub mod Layout
pub mod Extents
pub mod Image
