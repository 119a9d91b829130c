pub mod Terms
pub mod Diagnosis
pub mod Examined
pub mod Laws
