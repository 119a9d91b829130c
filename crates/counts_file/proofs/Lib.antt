pub mod Terms
pub mod Written
pub mod Rising
pub mod Refusing
pub mod Same
