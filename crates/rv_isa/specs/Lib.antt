pub mod Terms
pub mod Listing
pub mod Meaning
pub mod Ranges
pub mod Table
pub mod Words
pub mod AtOnce
