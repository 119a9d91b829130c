pub mod Answers
pub mod Counts
pub mod Laws
pub mod Lines
pub mod Refusals
pub mod Steps
pub mod Telling
