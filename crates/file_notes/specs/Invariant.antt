-- What holds of all notes. Callers are told it by `Stands`.
use Rattle.std.specs.Prelude.{◌≡◌, ℕ, ◌+◌, Bool, true, false, List, [], ◌++◌, length, take, drop, All, Option, None, Some, unwrap_or, if◌then◌else◌}
use Rattle.std.proofs.Props.{props}
use Rattle.rx_io.specs.contracts.file_calls.FileCall as file_call
use Rattle.file_notes.specs.Terms.{Coded-set, Unit-prop, coded_list, FileCall, Contents, Choice, Episode, Form}
use Rattle.file_notes.specs.Calling.{is_addition}
use Rattle.file_notes.specs.Asks.{AreAsks}
use Rattle.file_notes.specs.Left.{Left, is_whole}
use Rattle.file_notes.specs.Names.{Names, AreTwo, bytes_in}
use Rattle.file_notes.specs.Past.{Had, Past}
use Rattle.file_notes.specs.Standing.{in_record, in_report_behind}

-- what the two files have, by what they had
pub record HasKept (names : Names) (form : Form) (first : ℕ) (had : Had) (now : Contents) (choices : List Choice) (episodes : List Episode) (left : Left) : Type 0 where
  pub record_has : bytes_in now names.record_name ≡ unwrap_or had.record_bytes [] ++ in_record choices left
  pub report_has : bytes_in now names.report_name ≡ unwrap_or had.report_bytes [] ++ in_report_behind form first episodes left

abbrev pub Keeps : Names → Form → ℕ → Option Had → Option Contents → List Choice → List Episode → Left → Type 0
Keeps names form first None now choices episodes left = Unit {0}
Keeps names form first (Some had) None choices episodes left = ⊥
Keeps names form first (Some had) (Some now) choices episodes left = HasKept names form first had now choices episodes left

-- what holds of all notes, by what their files tell
pub record IsNotes (names : Names) (form : Form) (told : Option Contents) (past : Past) (number : ℕ) (broken : Bool) : Type 0 where
  pub are_two : AreTwo names
  pub number_is : number ≡ past.first + length past.episodes
  pub broken_is : is_whole past.left ≡ (if broken then false else true)
  pub keeps : Keeps names form past.first past.had told past.choices past.episodes past.left
  pub asks : AreAsks past.choices

pub Keeps-prop : (names : Names) (form : Form) (first : ℕ) (had : Option Had) (told : Option Contents) (choices : List Choice) (episodes : List Episode) (left : Left)
    → IsProp (Keeps names form first had told choices episodes left)
Keeps-prop names form first None told choices episodes left = Unit-prop
Keeps-prop names form first (Some had) None choices episodes left = λ p q. absurd p
Keeps-prop names form first (Some had) (Some now) choices episodes left = Prim.hlevel props

pub IsNotes-prop : (names : Names) (form : Form) (told : Option Contents) (past : Past) (number : ℕ) (broken : Bool) → IsProp (IsNotes names form told past number broken)
IsNotes-prop names form told past number broken = let keeps : IsProp (Keeps names form past.first past.had told past.choices past.episodes past.left) = Keeps-prop names form past.first past.had told past.choices past.episodes past.left in Prim.hlevel (props, keeps)

-- behind the calls that were made before stand some that add to the record or to the report
pub record HasAdded (names : Names) (before now : List FileCall) : Type 0 where
  pub same : take (length before) now ≡ before
  pub each : All (λ call. is_addition names call ≡ true) (drop (length before) now)

-- the same where the files told their calls before
abbrev pub Called : Names → Option (List FileCall) → Option (List FileCall) → Type 0
Called names None now = Unit {0}
Called names (Some before) None = ⊥
Called names (Some before) (Some now) = HasAdded names before now

pub Called-prop : (names : Names) (before now : Option (List FileCall)) → IsProp (Called names before now)
Called-prop names None now = Unit-prop
Called-prop names (Some before) None = λ p q. absurd p
Called-prop names (Some before) (Some now) = let same : IsProp (take (length before) now ≡ before) = Coded-set (coded_list file_call.the_row.coded) (take (length before) now) before in Prim.hlevel (props, same)
