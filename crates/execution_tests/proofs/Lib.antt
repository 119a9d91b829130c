pub mod CheckpointLemmas
