pub mod Terms
pub mod ReadLemmas
pub mod WriteLemmas
pub mod PayloadLemmas
pub mod StopLemmas
pub mod ServeLemmas
mod WatchLemmas
mod FrameFronts
mod HeededFronts
mod SameBytes
mod SameRun
mod FrontLemmas
mod SendLemmas
mod TrunkLemmas
mod StandbyLemmas
mod StandbyTrunk
mod ConvertLemmas
mod ResumeLemmas
pub mod EndLemmas
pub mod PortCallLemmas
mod PortLemmas
