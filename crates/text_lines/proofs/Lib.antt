pub mod Terms
pub mod Lines
pub mod Digits
pub mod Written
