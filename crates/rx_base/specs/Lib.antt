pub mod Outside
pub mod Faults
pub mod Taking
pub mod Planned
pub mod Prefix
pub mod Sends
