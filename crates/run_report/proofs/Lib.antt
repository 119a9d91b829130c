pub mod Floats
mod Examples
