pub mod Both
mod Meets
