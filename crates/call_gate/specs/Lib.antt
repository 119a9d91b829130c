pub mod Flags
pub mod Calls
pub mod Checks
