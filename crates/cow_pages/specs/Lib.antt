pub mod Pages
pub mod Writes
pub mod Little
pub mod Pool
