pub mod Terms
pub mod Calls
pub mod Taking
pub mod Passing
pub mod Noting
