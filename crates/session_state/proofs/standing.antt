pub mod StoryLemmas
pub mod HeldLemmas
pub mod CheckpointLemmas
pub mod NeedLemmas
pub mod FrameLemmas
