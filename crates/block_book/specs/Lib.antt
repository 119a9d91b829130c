pub mod Block
pub mod Heap
pub mod Placement
pub mod Answer
pub mod Search
pub mod Laws
