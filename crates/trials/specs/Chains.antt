-- The checkpoints of a session's ring, as runs.
use Rattle.std.specs.Prelude.{◌≡◌, ◌⊎◌, ◌<◌, List, [], ◌∷◌}
use Rattle.trials.specs.Terms.{Item, Image, AsksFor, Limits, Override, Path, Served, origin}

-- a checkpoint is the start, or a run that took items and stands at its request for the next one
abbrev pub IsCheckpoint : Limits → Image → Path → Type 0
IsCheckpoint limits image checkpoint = (checkpoint ≡ origin image) ⊎ ((0 < checkpoint.state.machine.taken) × AsksFor limits [] checkpoint checkpoint.state.machine.taken)

abbrev pub AreCheckpoints : Limits → Image → List Path → Type 0
AreCheckpoints limits image [] = Unit {0}
AreCheckpoints limits image (newest ∷ older) = IsCheckpoint limits image newest × AreCheckpoints limits image older

-- Runs that go on one as the other: the checkpoints, from the newest to the oldest, each as the one before it in the list, and the newest
-- as a later run. The oldest goes on from the start.
abbrev pub AreChained : Limits → List Item → List Override → Image → Path → List Path → Type 0
AreChained limits items plan image later [] = Served limits items plan (origin image) later
AreChained limits items plan image later (newest ∷ older) = Served limits items plan newest later × AreChained limits items plan image newest older
