pub mod Terms
pub mod Asking
pub mod Going
pub mod Planned
pub mod Agreeing
pub mod Chained
pub mod Fewer
pub mod Results
pub mod Walked
pub mod Recovered
mod Examples
pub mod Survivors
pub mod Shortest
pub mod Failed
