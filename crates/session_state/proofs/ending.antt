pub mod LeavingLemmas
pub mod FaultLemmas
pub mod EndLemmas
pub mod TurnLemmas
pub mod StartLemmas
pub mod KnownLemmas
pub mod ServingLemmas
