pub mod Survival
pub mod Words
pub mod Lines
pub mod Noting
pub mod Lists
