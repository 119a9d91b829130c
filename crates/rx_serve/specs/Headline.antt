-- The headline: the bytes passed to each connection are a prefix of those that the recorded run emits on it.
use Rattle.std.specs.Prelude.{◌≡◌, ℕ, ◌+◌, ◌≤◌, List, [], ◌++◌, length, Some}
use Rattle.run_history.specs.declared.answer.Answer.TheVariants as answer
use Rattle.run_history.specs.Run.{run}
use Rattle.rx_serve.specs.Terms.{Item, Choice, Image, Ends, State, start, Run, effect, Session, journal_of, IsEnd, items_in, Rules, Route}
use Rattle.rx_serve.specs.declared.ending.End.{End}
use Rattle.rx_serve.specs.Route.{IsDone, PassedOver}

-- the items that a session received: those of the events that it heeded
abbrev pub received_items : Rules → Session → List Item
received_items rules session = items_in rules.bounds (journal_of session)

-- the last of so many instructions of a run is exit with this code
pub record LastExits (image : Image) (items : List Item) (choices : List Choice) (steps code : ℕ) : Type 0 where
  pub earlier : ℕ
  pub before : State
  pub counted : steps ≡ earlier + 1
  pub ran : run items choices (start image) earlier ≡ Some before
  pub exits : effect items choices before.machine ≡ Ends code

-- Over the account of a session:
pub record Headline (rules : Rules) (image : Image) (session : Session) (recording : List Choice) (route : Route) (end : End) : Type 0 where
  -- one run of the program from its start on flat memory, which takes the received items once each in order, and of which every answer of
  -- the allocator is one that C allows: those that stand in the record, and those of the tail
  pub recorded : length recording ≡ end.recorded
  pub ran : Run image (received_items rules session) (recording ++ end.tail) end.steps session.survivor.now.state
  -- at an end all of them stand in the record
  pub all_recorded : IsEnd end.answer → end.tail ≡ []
  pub taken : session.survivor.now.state.machine.taken ≡ end.taken
  pub received : end.taken ≤ length (received_items rules session)
  -- the bytes passed to each connection are a prefix of those that this run emits on it, and at an end all of them
  pub passed : PassedOver route rules session end.answer
  -- at Finished every received item is taken, and what was served is at its end
  pub finished : end.answer ≡ answer.Finished → (end.taken ≡ length (received_items rules session)) × IsDone route
  -- at Exited the run's last instruction is exit with that code
  pub exited : (code : ℕ) → end.answer ≡ answer.Exited code → LastExits image (received_items rules session) (recording ++ end.tail) end.steps code
