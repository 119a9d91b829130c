pub mod Terms
pub mod Cutting
pub mod Short
pub mod Lines
pub mod Lengths
pub mod Parting
pub mod Walking
