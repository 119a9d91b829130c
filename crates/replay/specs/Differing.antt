-- What differs where a run isn't the recorded one, as a value.
use Rattle.std.specs.Prelude.{◌≡◌, ◌≢◌, ℕ, ◌<◌, Bool, List, length, slice_get, Option, None, Some, unwrap_or, Result, Err}
use Rattle.run_history.specs.declared.answer.Answer.TheVariants as answer
use Rattle.replay.specs.Terms.{Send, Entry, HasEnded, Seen, Ask, Choice, Image, Answer, Chooses, Effect, Fails, Machine, Wants, does, Standing, Line, Recorded, Difference}
use Rattle.replay.specs.declared.difference.Difference.TheVariants as difference
use Rattle.replay.specs.Replaying.{HasReplayedBy, IsUnusable, Replay, WaitsForItem}

-- before the record's end the program lives, and does this next
abbrev pub WouldDo : Recorded → ℕ → Option ℕ → Machine → Effect → Type 0
WouldDo recorded steps ended m effect = (steps < recorded.steps) × (ended ≡ None) × (does None None m ≡ effect)

-- the line of a number tells of another ask than was asked
pub record HasOtherAsk (recorded : Recorded) (number : ℕ) (asked told : Ask) : Type 0 where
  pub line : Line
  pub is : slice_get recorded.lines number ≡ Some line
  pub tells : line.ask ≡ Some told
  pub other : told ≢ asked

-- the line of a number is of what was asked, or doesn't say of what, and its answer can't be used
pub record HasUnusable (recorded : Recorded) (m : Machine) (number : ℕ) (asked : Ask) (at : ℕ) (zeroed : Bool) (carried : ℕ) : Type 0 where
  pub line : Line
  pub is : slice_get recorded.lines number ≡ Some line
  pub tells : unwrap_or line.ask asked ≡ asked
  pub address : at ≡ line.at
  pub mark : zeroed ≡ line.zeroed
  pub carries : carried ≡ line.carried
  pub unusable : IsUnusable m asked (Some line)

-- What differs, where a run used so many of the record's lines, and stands there behind so many instructions.
abbrev pub IsApart : Recorded → ℕ → ℕ → Option ℕ → Machine → Difference → Type 0
IsApart recorded used steps ended m (difference.Ended code) = (steps < recorded.steps) × (ended ≡ Some code)
IsApart recorded used steps ended m (difference.Failed cause) = WouldDo recorded steps ended m (Fails cause)
IsApart recorded used steps ended m difference.InputEnded = WouldDo recorded steps ended m Wants
IsApart recorded used steps ended m (difference.NoLine number asked) = WouldDo recorded steps ended m (Chooses asked) × (number ≡ used) × (slice_get recorded.lines used ≡ None)
IsApart recorded used steps ended m (difference.OtherAsk number asked told) = WouldDo recorded steps ended m (Chooses asked) × (number ≡ used) × HasOtherAsk recorded used asked told
IsApart recorded used steps ended m (difference.Unusable number asked at zeroed carried) =
    WouldDo recorded steps ended m (Chooses asked) × (number ≡ used) × HasUnusable recorded m used asked at zeroed carried
IsApart recorded used steps ended m (difference.LinesLeft count lines) = (steps ≡ recorded.steps) × (count ≡ used) × (lines ≡ length recorded.lines) × (used < length recorded.lines)
IsApart recorded used steps ended m (difference.ItemsApart taken told) =
    (steps ≡ recorded.steps) × (used ≡ length recorded.lines) × (taken ≡ m.taken) × (told ≡ recorded.taken) × (m.taken ≢ recorded.taken)

-- This differs, of a replay over the entries of a journal. Each replay has one difference at most.
abbrev pub IsDifference : Recorded → List Entry → Replay → Difference → Type 0
IsDifference recorded entries replay difference.InputEnded = WaitsForItem recorded entries replay × HasEnded entries
IsDifference recorded entries replay found = IsApart recorded (length replay.choices) replay.steps replay.state.ended replay.state.machine found

-- a difference is there, and it is one
abbrev pub HasDifference : Recorded → List Entry → Replay → Option Difference → Type 0
HasDifference recorded entries replay None = ⊥
HasDifference recorded entries replay (Some found) = IsDifference recorded entries replay found

-- a difference is there exactly at Mismatch, and then it is one
abbrev pub TellsDifference : Recorded → List Entry → Replay → Answer → Option Difference → Type 0
TellsDifference recorded entries replay (answer.Mismatch step) found = HasDifference recorded entries replay found
TellsDifference recorded entries replay _ found = found ≡ None

-- What a replay leaves, what differs from the record, and the answers of the allocator that its run used.
pub record HasFilledBy (image : Image) (recorded : Recorded) (began now : Seen) (Last : List Send → Type 0) (end : Answer) (found : Option Difference) (choices : List Choice) (before after : ℕ) : Type 0 where
  pub by : HasReplayedBy image recorded began now Last end before after
  pub differs : TellsDifference recorded by.replayed.entries by.replayed.replay end found
  pub choices_are : choices ≡ by.replayed.replay.choices

-- what a guest that stands so has found to differ: something, and it does
abbrev pub HasFound : Recorded → Standing → Option Difference → Type 0
HasFound recorded s None = ⊥
HasFound recorded s (Some found) = IsApart recorded s.guest.machine.allocations s.steps s.ended s.guest.machine found

-- what is known to differ is as it was; but at Mismatch this holds of it
abbrev pub DiffersBy : (Option Difference → Type 0) → Option Difference → Option Difference → Result (Unit {0}) Answer → Type 0
DiffersBy P old new (Err (answer.Mismatch step)) = P new
DiffersBy P old new _ = new ≡ old

-- no Mismatch is answered
abbrev pub Never : Option Difference → Type 0
Never found = ⊥

-- the input ended
abbrev pub IsInputEnd : Option Difference → Type 0
IsInputEnd found = found ≡ Some difference.InputEnded
