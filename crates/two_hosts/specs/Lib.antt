pub mod Terms
pub mod Hosts
pub mod Rows
pub mod Laws
