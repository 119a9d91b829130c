pub mod Terms
pub mod GeneratorLemmas
pub mod WriteLemmas
pub mod LinkLemmas
pub mod DrillLemmas
mod Examples
