-- What holds while a session serves, and at its end. Each event keeps it; it has the account.
use Rattle.std.specs.Prelude.{ℕ, ◌≤◌, List, [], ◌++◌, Bool, false, unwrap_or}
use Rattle.session_history.specs.Terms.{Entry, Image, Override, Path, Served, origin}
use Rattle.session_history.specs.Heeding.{items_in, received, AreHeeded}
use Rattle.session_history.specs.Passing.{passed_in, Covers, IsFeasible, AreBetween, AreInOrder}
use Rattle.session_history.specs.Owing.{Moment, moment_at}
use Rattle.session_history.specs.Lawful.{Rules, Survivor, AreDue, AreLawful, Chapter, entries_of, from_there, place_of}

-- What holds of a journal and the survivor behind it: it is a run on the items received, which emits what was passed.
pub record Carries (rules : Rules) (image : Image) (entries : List Entry) (plan : List Override) (now : Path) : Type 0 where
  pub served : Served rules.limits (items_in rules.bounds entries) plan (origin image) now
  pub taken : now.state.machine.taken ≤ received rules.bounds entries
  pub covers : Covers (passed_in rules.bounds entries) now.state
  pub feasible : IsFeasible (passed_in rules.bounds entries) now.state
  pub ordered : AreInOrder (received rules.bounds entries) (passed_in rules.bounds entries)
  pub timed : AreBetween 0 now.state.machine.taken now.state.sends

-- the moment of a session that serves, behind some entries of its survivor's time, where it has taken so many items
abbrev pub moment_of : List Chapter → List Entry → ℕ → Moment
moment_of earlier since taken = moment_at (place_of earlier since false) taken

-- a session serves: what its account says while it has no end
pub record Serving (rules : Rules) (image : Image) (earlier : List Chapter) (survivor : Survivor) (since : List Entry) : Type 0 where
  pub carries : Carries rules image (entries_of earlier ++ since) survivor.plan survivor.now
  pub begins : Served rules.limits (items_in rules.bounds (entries_of earlier ++ since)) survivor.plan (origin image) survivor.begun
  pub before : AreLawful rules (items_in rules.bounds (entries_of earlier ++ since)) [] earlier
  pub due : AreDue rules (items_in rules.bounds (entries_of earlier ++ since)) survivor (place_of earlier [] false) since

-- where a session's run stands when it begins: at the start of its image, or where that of the part before it stood
abbrev pub starting_path : Rules → Image → Path
starting_path rules image = unwrap_or rules.bounds.before.stood (origin image)

-- the first survivor where it begins
abbrev pub first_survivor : Rules → Image → Survivor
first_survivor rules image = record { plan = rules.bounds.before.plan; begun = starting_path rules image; now = starting_path rules image }

-- What came before a session is sound: each event of it was heeded, and the run that stood there emits what clients have.
pub record IsSoundBefore (rules : Rules) (image : Image) : Type 0 where
  pub heeded : AreHeeded rules.bounds []
  pub carries : Carries rules image [] rules.bounds.before.plan (starting_path rules image)

-- the moment behind the entries of the survivor's time and the pieces of the end
abbrev pub ending_at : List Chapter → List Entry → Bool → ℕ → Moment
ending_at earlier since at_end taken = moment_at (place_of earlier since at_end) taken

-- a session that may have come to its end, with the pieces that were passed there, where its survivor stands
pub record Ending (rules : Rules) (image : Image) (earlier : List Chapter) (survivor : Survivor) (since ending : List Entry) (at_end : Bool) : Type 0 where
  pub carries : Carries rules image (entries_of earlier ++ (since ++ ending)) survivor.plan survivor.now
  pub begins : Served rules.limits (items_in rules.bounds (entries_of earlier ++ (since ++ ending))) survivor.plan (origin image) survivor.begun
  pub before : AreLawful rules (items_in rules.bounds (entries_of earlier ++ (since ++ ending))) [] earlier
  pub due : AreDue rules (items_in rules.bounds (entries_of earlier ++ (since ++ ending))) survivor (place_of earlier [] false) since
  pub last : AreDue rules (items_in rules.bounds (entries_of earlier ++ (since ++ ending))) (from_there survivor survivor.now) (place_of earlier since at_end) ending
