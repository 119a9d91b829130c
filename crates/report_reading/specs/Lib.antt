pub mod Terms
pub mod Answers
pub mod Cutting
pub mod Laws
pub mod Refusals
pub mod Reports
pub mod Steps
pub mod Telling
