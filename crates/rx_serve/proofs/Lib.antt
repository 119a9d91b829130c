pub mod Terms
pub mod AssemblyLemmas
pub mod SettingsLemmas
pub mod FewSteps
pub mod MemoryLemmas
pub mod ComparingLemmas
pub mod NamesLemmas
pub mod NotingLemmas
pub mod CallingLemmas
pub mod BindLemmas
pub mod HeadlineLemmas
pub mod GuardLemmas
pub mod RunLemmas
pub mod DiagnosingLemmas
mod ResumeLemmas
mod RecordLemmas
mod ReplayLemmas
mod ConvertLemmas
mod StandbyFileLemmas
mod ResumeFileLemmas
mod StandbyLemmas
mod ChoiceRanges
mod CommandLemmas
mod EndsLemmas
pub mod SessionLaws
mod Opening
mod PortOrder
mod PortSends
mod ServeLaws
pub mod Lemmas
