pub mod Terms
pub mod Treatment
pub mod Serving
pub mod Laws
