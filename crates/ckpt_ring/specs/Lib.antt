pub mod Line
pub mod Rings
pub mod Slots
