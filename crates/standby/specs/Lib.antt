pub mod Terms
pub mod Hearing
pub mod Following
pub mod Missing
pub mod Giving
pub mod Serving
pub mod Running
pub mod Laws
