pub mod Messages
pub mod Feeding
pub mod Skipped
pub mod Ends
pub mod Takes
pub mod Laws
