-- What a session of a program leaves, or what stands in place of one.
use Rattle.std.specs.Prelude.{List, [], ◌++◌, Option, Ok}
use Rattle.rx_serve.specs.Terms.{FileCall, Contents, Image, Stop, IsEnd, answer_of, Rules, Episode, CallsFront, keeping_for, Route, RunValue}
use Rattle.rx_serve.specs.declared.ending.End.{End}
use Rattle.rx_serve.specs.Beginning.{StartsPartly}
use Rattle.rx_serve.specs.Calling.{CallsServedBehind, before_session}
use Rattle.rx_serve.specs.Ended.{HasNoSession}
use Rattle.rx_serve.specs.Guarding.{KeepsToBlocks}
use Rattle.rx_serve.specs.Headline.{Headline}
use Rattle.rx_serve.specs.Loading.{HasImage, HasLoadCause}
use Rattle.rx_serve.specs.Noting.{StartsFiles, ServesNotedBehind, ClosesFiles, HaveTexts}
use Rattle.rx_serve.specs.Outside.{Outside, IsUntouched}
use Rattle.rx_serve.specs.Settings.{window_of, options_of, rules_of_run}

-- no session began: the program has no image, or its files can't be started, or memory ran out. Nothing was read, passed or run
pub record HasNotBegun (value : RunValue) (old new : Outside) (end : End) : Type 0 where
  pub cause : HasLoadCause old.files value.program (window_of value) end.answer
  pub starts : StartsPartly value old.files new.files end.answer
  pub called : CallsFront old.calls new.calls (before_session value)
  pub untouched : IsUntouched old new
  pub nothing : HasNoSession end

-- A session of an image served, between the first and the last lines of its two files, of which this holds: one account of it, from which the bytes taken
-- and passed follow, with the cause of the session's end behind it, and of which the headline is true, and what the guard of the heap gives. At an end
-- the record and the report are whole, the report with the episodes that were told before.
pub record HasServedBehind (IsOf : Image → Type 0) (AreStarted : Option Contents → Type 0) (calls : List FileCall) (before : List Episode) (rules : Rules) (value : RunValue) (route : Route) (old new : Outside) (end : End) : Type 0 where
  pub image : Image
  pub program : IsOf image
  pub files_started : Option Contents
  pub files_served : Option Contents
  pub why : Stop
  pub starts : AreStarted files_started
  pub noted : ServesNotedBehind before rules (keeping_for (options_of value)) image value route (record old { files = files_started }) (record new { files = files_served }) (record { stop = why; recorded = end.recorded; tail = end.tail; taken = end.taken; steps = end.steps })
  pub closes : ClosesFiles value end.taken end.steps files_served new.files (answer_of why) end.answer
  pub called : CallsServedBehind calls value old.calls new.calls (answer_of why) end.answer
  pub texts : IsEnd end.answer → HaveTexts value noted.choices (before ++ noted.episodes) end.answer end.taken end.steps old.files new.files
  pub headline : Headline rules image noted.serves.telling.account noted.choices route end
  pub guarded : KeepsToBlocks value.guard rules image noted.serves.telling.account noted.choices end

-- A session of the program served so, with its own rules, and no episode was told before.
abbrev pub HasServed : RunValue → Route → Outside → Outside → End → Type 0
HasServed value route old new =
    HasServedBehind (HasImage old.files value.program (window_of value)) (λ (started : Option Contents). StartsFiles value old.files started (Ok tt)) (before_session value) [] (rules_of_run value) value route old new
