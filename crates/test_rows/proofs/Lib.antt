pub mod Quiet
pub mod Ready
