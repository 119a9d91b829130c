-- What holds of each replay of a record that a run left, over the items that the run was given.
use Rattle.std.specs.Prelude.{◌≡◌, ◌≢◌, ◌⊎◌, ℕ, ◌<◌, List, [], ◌++◌, length, map, slice_get, Option, None, Some, IfSome}
use Rattle.run_history.specs.declared.answer.Answer.TheVariants as answer
use Rattle.replay.specs.Terms.{Item, Prefix, Entry, LinkEvent, Coming, HasEnded, Refuses, events_in, pieces_in, Seen, Ask, Choice, most_blocks, Image, Answer, Chooses, State, start, Run, does, run, IsAccount, Session, journal_of, AreHeeded, Bounds, events_of, items_in, Rules, Line, Recorded, line_of}
use Rattle.replay.specs.Giving.{AreGiven}
use Rattle.replay.specs.Replaying.{AreOfLines, bounds_of, HasReplayed}

-- wherever a run was answered with a block, fewer blocks were live than may be
abbrev pub HasRoom : Image → List Item → List Choice → ℕ → Type 0
HasRoom image items choices steps =
    (earlier : ℕ) (state : State) (ask : Ask) (choice : Choice) → earlier < steps → run items choices (start image) earlier ≡ Some state → does None None state.machine ≡ Chooses ask →
    slice_get choices state.machine.allocations ≡ Some choice → choice.at ≢ 0 → length state.machine.blocks < most_blocks

-- a record tells of the run of an image on these items, which used these answers of the allocator and ends in this state
pub record IsRecordOf (image : Image) (items : List Item) (choices : List Choice) (state : State) (recorded : Recorded) : Type 0 where
  -- the record has a line of each answer that the run used, and its number of instructions
  pub lines : AreOfLines recorded.lines choices
  pub all : length choices ≡ length recorded.lines
  pub ran : Run image items choices recorded.steps state
  -- so does the number of items that it took
  pub taken : state.machine.taken ≡ recorded.taken
  -- wherever it was answered with a block, fewer blocks were live than may be
  pub room : HasRoom image items choices recorded.steps

-- the events of a journal bring the first of these items
pub record BringsFirst (bounds : Bounds) (items : List Item) (entries : List Entry) : Type 0 where
  -- those that they don't bring
  pub more : List Item
  pub first : items ≡ items_in bounds entries ++ more
  -- where the link has ended, they bring all of them
  pub all : HasEnded entries → more ≡ []

-- No replay of such a record says that the run doesn't go on as recorded.
abbrev pub RecordIsReplayed : Type 0
RecordIsReplayed =
    (image : Image) (items : List Item) (choices : List Choice) (state : State) (recorded : Recorded) (began now : Seen) (step before after : ℕ)
    (replayed : HasReplayed image recorded began now (answer.Mismatch step) before after) →
    IsRecordOf image items choices state recorded → BringsFirst (bounds_of recorded) items replayed.entries → ⊥

-- At Finished it stands where the recorded run ended, and used its answers of the allocator. So its pieces are the sends of that run.
abbrev pub ReplayGivesSends : Type 0
ReplayGivesSends =
    (image : Image) (items : List Item) (choices : List Choice) (state : State) (recorded : Recorded) (began now : Seen) (before after : ℕ)
    (replayed : HasReplayed image recorded began now answer.Finished before after) →
    IsRecordOf image items choices state recorded → BringsFirst (bounds_of recorded) items replayed.entries → (replayed.replay.state ≡ state) × (replayed.replay.choices ≡ choices) × AreGiven state.sends (pieces_in replayed.entries)

-- An answer that says nothing against the record: all was as recorded; or there was a fault of reading or writing, or want of memory; or the
-- input was refused, by its grammar or by what any session may have.
abbrev pub IsNoMismatch : Recorded → List Entry → Option Coming → Answer → Type 0
IsNoMismatch recorded entries coming answer.Finished = Unit {0}
IsNoMismatch recorded entries coming answer.ReadFault = Unit {0}
IsNoMismatch recorded entries coming answer.WriteFault = Unit {0}
IsNoMismatch recorded entries coming answer.Memory = Unit {0}
IsNoMismatch recorded entries coming (answer.InputRefused kind offset) = IfSome coming (λ next. next ≡ Refuses kind offset)
IsNoMismatch recorded entries coming (answer.MessageTooLong conn) = AreHeeded (bounds_of recorded) entries → ⊥
IsNoMismatch recorded entries coming answer.LimitItems = AreHeeded (bounds_of recorded) entries → ⊥
IsNoMismatch recorded entries coming answer.LimitEvents = AreHeeded (bounds_of recorded) entries → ⊥
IsNoMismatch recorded entries coming _ = ⊥

-- A replay of such a record has no other answer.
abbrev pub OnlyFaults : Type 0
OnlyFaults =
    (image : Image) (items : List Item) (choices : List Choice) (state : State) (recorded : Recorded) (began now : Seen) (end : Answer) (before after : ℕ)
    (replayed : HasReplayed image recorded began now end before after) →
    IsRecordOf image items choices state recorded → BringsFirst (bounds_of recorded) items replayed.entries → IsNoMismatch recorded replayed.entries now.coming end

-- an answer's line in version 1, which doesn't say what was asked
abbrev pub bare_line : Choice → Line
bare_line choice = record { ask = None; at = choice.at; zeroed = choice.zeroed; carried = choice.carried }

-- lines are those of these answers, in version 2 or in version 1
abbrev pub AreLinesOf : List Line → List Choice → Type 0
AreLinesOf lines choices = (lines ≡ map line_of choices) ⊎ (lines ≡ map bare_line choices)

-- What a session knows of its run stands in a record: how pieces are cut into messages, the answers of the allocator, how many instructions
-- were executed, and how many items were taken.
pub record HasSession (rules : Rules) (session : Session) (recorded : Recorded) : Type 0 where
  pub frame : recorded.frame ≡ rules.bounds.framing
  pub lines : AreLinesOf recorded.lines session.survivor.now.choices
  pub steps : recorded.steps ≡ session.survivor.now.steps
  pub taken : recorded.taken ≡ session.survivor.now.state.machine.taken

-- Then it is a record of the session's run, on the items that the session received.
abbrev pub SessionLeavesRecord : Type 0
SessionLeavesRecord =
    (rules : Rules) (image : Image) (session : Session) (recorded : Recorded) → IsAccount rules image session → HasSession rules session recorded →
    IsRecordOf image (items_in rules.bounds (journal_of session)) session.survivor.now.choices session.survivor.now.state recorded

-- Two journals had one stream of events, a session's, with what came before it, and a replay's: each took the first ones of it, and the replay's link ends
-- only behind the last one.
pub record HadOneStream (bounds : Bounds) (events : List LinkEvent) (session replay : List Entry) : Type 0 where
  pub session_took : Prefix (events_of bounds session) events
  pub replay_took : Prefix (events_in replay) events
  pub all : HasEnded replay → events_in replay ≡ events

-- Then what the replay took brings the first of the items that the session received: it asks for no event behind those of the recorded run.
abbrev pub OneStreamBrings : Type 0
OneStreamBrings =
    (image : Image) (bounds : Bounds) (journal : List Entry) (events : List LinkEvent) (choices : List Choice) (state : State) (recorded : Recorded) (began now : Seen) (end : Answer) (before after : ℕ)
    (replayed : HasReplayed image recorded began now end before after) →
    recorded.frame ≡ bounds.framing → IsRecordOf image (items_in bounds journal) choices state recorded → HadOneStream bounds events journal replayed.entries → BringsFirst (bounds_of recorded) (items_in bounds journal) replayed.entries

-- So a session's record is replayed over the session's stream: no answer says that the run doesn't go on as recorded, and at Finished the
-- replay has used the session's answers of the allocator and given the sends of its run.
abbrev pub SessionIsReplayed : Type 0
SessionIsReplayed =
    (rules : Rules) (image : Image) (session : Session) (events : List LinkEvent) (recorded : Recorded) (began now : Seen) (end : Answer) (before after : ℕ)
    (replayed : HasReplayed image recorded began now end before after) →
    IsAccount rules image session → HasSession rules session recorded → HadOneStream rules.bounds events (journal_of session) replayed.entries →
    IsNoMismatch recorded replayed.entries now.coming end × (end ≡ answer.Finished → (replayed.replay.choices ≡ session.survivor.now.choices) × AreGiven session.survivor.now.state.sends (pieces_in replayed.entries))
