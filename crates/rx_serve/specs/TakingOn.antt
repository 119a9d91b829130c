-- What the parts of `resume` leave: its beginning, and its session with its notes.
use Rattle.std.specs.Prelude.{◌≡◌, List, Option, option_map, Result, Ok, Err}
use Rattle.rx_serve.specs.Terms.{Contents, LinkEvent, Image, Answer, Path, Stop, answer_of, Rules, Episode, HasFollowed, rules_behind, Handed, Keeping, Names, keeping_for, Outcome, outcome_of, IsBegun, SessionState, Unfollowed, ResumeValue, RunValue}
use Rattle.rx_serve.specs.declared.resuming_files.Handover.{Handover}
use Rattle.rx_serve.specs.Noting.{ServesNotedBehind}
use Rattle.rx_serve.specs.Outside.{Outside}
use Rattle.rx_serve.specs.Resuming.{StartsPartlyBehind, StartsTakenOver, StopsNoted, finish_as, unreleased_answer}
use Rattle.rx_serve.specs.Route.{trunk_of}
use Rattle.rx_serve.specs.Settings.{options_of}

-- what is handed over, of what the four files were read as
abbrev pub handed_in : Handover → Handed
handed_in over = record { counts = over.counts; episodes = over.episodes; choices = over.handed.choices.items; finish = option_map finish_as over.handed.finish }

-- the names of the two files that are written
abbrev pub new_names : ResumeValue → Names
new_names value = record { record_name = value.recording; report_name = value.report }

-- a session that has begun behind the first lines of its two files, or why there is none
abbrev pub BeginsBehind : {R : Type 0} → RunValue → R → Image → List Episode → Option Contents → Option Contents → Result (SessionState R) Answer → Type 0
BeginsBehind value rule image episodes files files_later (Ok session) = StartsTakenOver value episodes files files_later (Ok tt) × IsBegun image (options_of value) rule session
BeginsBehind value rule image episodes files files_later (Err end) = StartsPartlyBehind value episodes files files_later end

-- A session took over, was released behind these events, and served on; and what it noted stands in its two files.
pub record ServesOnNoted (rules : Rules) (keeping : Keeping) (image : Image) (value : RunValue) (handed : Handed) (old new : Outside) (outcome : Outcome) : Type 0 where
  pub events : List LinkEvent
  pub released : Path
  pub followed : HasFollowed rules image handed events released
  pub noted : ServesNotedBehind handed.episodes (rules_behind rules handed events released) keeping image value (trunk_of old new) old new outcome

-- it served on and stopped so, or it wasn't released
abbrev pub ResumesNoted : {R : Type 0} → Rules → RunValue → Handed → Outside → Outside → SessionState R → SessionState R → Result Answer Unfollowed → Type 0
ResumesNoted rules value handed old new began session (Ok answered) =
    (why : Stop) × ((answered ≡ answer_of why) × ((image : Image) → IsBegun image began.options began.cpu.rule began → ServesOnNoted rules (keeping_for began.options) image value handed old new (outcome_of why session)))
ResumesNoted rules value handed old new began session (Err why) = (image : Image) → IsBegun image began.options began.cpu.rule began → StopsNoted rules image value handed old new why

-- what it comes to, as the answer of a command
abbrev pub resumed_answer : Result Answer Unfollowed → Answer
resumed_answer (Ok answered) = answered
resumed_answer (Err why) = unreleased_answer why
