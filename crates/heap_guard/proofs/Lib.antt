pub mod Laying
pub mod Guarding
