pub mod EventLemmas
pub mod HearLemmas
pub mod ArmLemmas
pub mod SettleLemmas
pub mod StopLemmas
pub mod HearingLemmas
