pub mod Terms
mod Examples
pub mod Labelling
pub mod Flaws
pub mod Surveys
pub mod Putting
pub mod Encodable
pub mod Forms
pub mod Good
pub mod Texts
pub mod Images
pub mod Standing
pub mod Agreement
pub mod Assembly
pub mod OneImage
