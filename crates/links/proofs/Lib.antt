pub mod Terms
mod Tables
pub mod Journaled
pub mod Growing
pub mod Moved
