pub mod Terms
pub mod Numbers
pub mod Headers
pub mod Written
pub mod Refusing
pub mod Sizes
pub mod ReadBack
pub mod RoundTrip
pub mod Prefixes
pub mod Found
pub mod Reaches
mod Examples
