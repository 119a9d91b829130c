-- What a replay of a record is: the run that the record tells of, over the events of a link, and its sends given again.
use Rattle.std.specs.Prelude.{◌≡◌, ◌≢◌, ℕ, ◌+◌, ◌<◌, ◌≤◌, ◌^◌, List, [], ◌∷◌, ◌++◌, length, slice_get, unwrap_or, false, None, Some, Option, IsSome, IfSome, ◌⊎◌, true}
use Rattle.links.specs.declared.journal.Entry.TheVariants as entry
use Rattle.links.specs.declared.journal.LinkEvent.TheVariants as event
use Rattle.run_history.specs.declared.answer.Answer.TheVariants as answer
use Rattle.session_history.specs.Heeding as unheeded
use Rattle.replay.specs.Terms.{MAX_ITEMS, Send, Entry, LinkEvent, Coming, HasEnded, IsNext, Refuses, Tells, events_in, pieces_in, Seen, Ask, Choice, is_allowed, most_blocks, Image, Answer, Cause, Chooses, Fails, Machine, State, Wants, Run, does, HasAnswerCause, IsLastRefused, IsLastTooLong, Bounds, heeded, items_in, nothing_before, received, Line, Recorded}
use Rattle.replay.specs.Giving.{AreGiven, AreGivenInPart}

-- what a record allows a link: its own framing, and the most items and events that any session may have; nothing comes before a replay
abbrev pub bounds_of : Recorded → Bounds
bounds_of recorded = record { framing = recorded.frame; max_items = MAX_ITEMS; max_events = 2 ^ 32; before = nothing_before }

-- an answer has this ask, where one is known
abbrev pub HasAsk : Option Ask → Choice → Type 0
HasAsk None choice = Unit {0}
HasAsk (Some ask) choice = choice.ask ≡ ask

-- an answer of the allocator is the one that a line tells of: its address, its mark, what it carries and, where the line has it, its ask
pub record IsOfLine (line : Line) (choice : Choice) : Type 0 where
  pub asked : HasAsk line.ask choice
  pub address : choice.at ≡ line.at
  pub mark : choice.zeroed ≡ line.zeroed
  pub carried : choice.carried ≡ line.carried

-- answers are those that the first of these lines tell of, one each
abbrev pub AreOfLines : List Line → List Choice → Type 0
AreOfLines lines [] = Unit {0}
AreOfLines [] (choice ∷ choices) = ⊥
AreOfLines (line ∷ lines) (choice ∷ choices) = IsOfLine line choice × AreOfLines lines choices

-- a replay so far: how many instructions were executed, the answers of the allocator that they used, where the run stands
pub record Replay : Type 0 where
  pub steps : ℕ
  pub choices : List Choice
  pub state : State

-- it is a run of the image on the items received, with the answers of the record's first lines, and no longer than the record's
pub record IsReplay (image : Image) (recorded : Recorded) (entries : List Entry) (replay : Replay) : Type 0 where
  pub ran : Run image (items_in (bounds_of recorded) entries) replay.choices replay.steps replay.state
  pub lines : AreOfLines recorded.lines replay.choices
  pub steps : replay.steps ≤ recorded.steps

-- A replay waits for the item that is received next: it is shorter than the record's run, it lives and asks for an item, and has taken all that
-- was received.
pub record WaitsForItem (recorded : Recorded) (entries : List Entry) (replay : Replay) : Type 0 where
  pub shorter : replay.steps < recorded.steps
  pub lives : replay.state.ended ≡ None
  pub asks : does None None replay.state.machine ≡ Wants
  pub taken : replay.state.machine.taken ≡ received (bounds_of recorded) entries

-- A replay asks for an item that a journal hasn't brought: it waits for it, all its sends are given, every event is heeded, and the link
-- hasn't ended.
pub record IsAsking (image : Image) (recorded : Recorded) (before : List Entry) (replay : Replay) : Type 0 where
  pub is : IsReplay image recorded before replay
  pub waits : WaitsForItem recorded before replay
  pub given : AreGiven replay.state.sends (pieces_in before)
  pub heeds : heeded (bounds_of recorded) (events_in before) ≡ events_in before
  pub goes_on : HasEnded before → ⊥

-- so an event was asked for behind a journal
pub record WasAsked (image : Image) (recorded : Recorded) (before : List Entry) : Type 0 where
  pub replay : Replay
  pub asks : IsAsking image recorded before replay

-- and no event was taken that wasn't
abbrev pub AreAsked : Image → Recorded → List Entry → Type 0
AreAsked image recorded entries = (before after : List Entry) (event : LinkEvent) → entries ≡ before ++ entry.Took event ∷ after → WasAsked image recorded before

-- the answer that a line tells of, where this was asked: it has the line's own ask, if there is one
abbrev pub choice_by : Ask → Line → Choice
choice_by ask line = record { ask = unwrap_or line.ask ask; at = line.at; zeroed = line.zeroed; carried = line.carried }

-- An ask has no answer in a record: no line is left; or the next one tells of an answer to another ask, or of one that C doesn't allow; or it is a
-- block, and as many stand as may.
abbrev pub IsUnusable : Machine → Ask → Option Line → Type 0
IsUnusable m ask None = Unit {0}
IsUnusable m ask (Some line) =
    (is_allowed m.heap_start m.heap_end m.blocks ask (choice_by ask line) ≡ false) ⊎ ((line.at ≢ 0) × (most_blocks ≤ length m.blocks))

-- Why a run isn't the recorded one. Before the record's end it has ended itself; or it fails; or it wants an answer of the allocator, and the
-- record has none, or none that can be used; or it asks for an item, and the link has ended. Or at the record's end lines are left
-- over, or not as many items were taken.
pub data Differs (recorded : Recorded) (entries : List Entry) (replay : Replay) : Type 0 where
  Ended : replay.steps < recorded.steps → IsSome replay.state.ended → Differs recorded entries replay
  Failed : (cause : Cause) → replay.steps < recorded.steps → replay.state.ended ≡ None → does None None replay.state.machine ≡ Fails cause → Differs recorded entries replay
  Unanswered : (ask : Ask) → replay.steps < recorded.steps → replay.state.ended ≡ None → does None None replay.state.machine ≡ Chooses ask
      → IsUnusable replay.state.machine ask (slice_get recorded.lines (length replay.choices)) → Differs recorded entries replay
  Starved : WaitsForItem recorded entries replay → HasEnded entries → Differs recorded entries replay
  Unused : replay.steps ≡ recorded.steps → length replay.choices < length recorded.lines → Differs recorded entries replay
  Untaken : replay.steps ≡ recorded.steps → replay.state.machine.taken ≢ recorded.taken → Differs recorded entries replay

-- What stands behind each answer. Everywhere but at a fault of writing and want of memory all sends are given. At Mismatch the end of the link is
-- what comes there, where the link has ended. Where an event is refused, the run waits still for the item for which that was asked.
abbrev pub EndsBy : Image → Recorded → List Entry → Option Coming → Replay → Answer → Type 0
EndsBy image recorded entries coming replay answer.Finished =
    (replay.steps ≡ recorded.steps) × (length replay.choices ≡ length recorded.lines) × (replay.state.machine.taken ≡ recorded.taken) × AreGiven replay.state.sends (pieces_in entries)
EndsBy image recorded entries coming replay (answer.Mismatch step) =
    (step ≡ replay.steps) × Differs recorded entries replay × AreGiven replay.state.sends (pieces_in entries) × (HasEnded entries → IfSome coming (λ next. IsNext next event.Ends))
EndsBy image recorded entries coming replay (answer.InputRefused kind offset) = IsAsking image recorded entries replay × IfSome coming (λ next. next ≡ Refuses kind offset)
EndsBy image recorded entries coming replay (answer.MessageTooLong conn) = WaitsForItem recorded entries replay × IsLastTooLong (bounds_of recorded) entries conn × AreGiven replay.state.sends (pieces_in entries)
EndsBy image recorded entries coming replay answer.LimitItems = WaitsForItem recorded entries replay × IsLastRefused (bounds_of recorded) entries unheeded.LimitItems × AreGiven replay.state.sends (pieces_in entries)
EndsBy image recorded entries coming replay answer.LimitEvents = WaitsForItem recorded entries replay × IsLastRefused (bounds_of recorded) entries unheeded.LimitEvents × AreGiven replay.state.sends (pieces_in entries)
EndsBy image recorded entries coming replay answer.ReadFault = IsAsking image recorded entries replay
EndsBy image recorded entries coming replay answer.WriteFault = AreGivenInPart replay.state.sends (pieces_in entries)
EndsBy image recorded entries coming replay answer.Memory = AreGivenInPart replay.state.sends (pieces_in entries)
EndsBy image recorded entries coming replay _ = ⊥

-- What a replay leaves at each answer, by what its link showed before and after, and the counter of steps. Where no event may be taken any
-- more, the take that failed was asked for.
pub record HasReplayed (image : Image) (recorded : Recorded) (began now : Seen) (end : Answer) (before after : ℕ) : Type 0 where
  pub entries : List Entry
  pub replay : Replay
  pub tells : Tells began.told now.told entries
  pub asked : AreAsked image recorded entries
  pub is : IsReplay image recorded entries replay
  pub ends : EndsBy image recorded entries now.coming replay end
  pub failed : now.takes ≡ false → IsAsking image recorded entries replay
  pub counted : after ≡ before + replay.steps

-- The same, and what is known of its sends: all are given where the link gives still. Where it gives no more, this holds of them.
pub record HasReplayedBy (image : Image) (recorded : Recorded) (began now : Seen) (Last : List Send → Type 0) (end : Answer) (before after : ℕ) : Type 0 where
  pub replayed : HasReplayed image recorded began now end before after
  pub given : now.gives ≡ true → AreGiven replayed.replay.state.sends (pieces_in replayed.entries)
  pub last : now.gives ≡ false → Last replayed.replay.state.sends

-- Which calls of its link have failed where a replay has ended: none, but at a refusal and at a fault of reading the last take, at a fault of
-- writing the last give, and at want of memory one of both at most. A link that told what its grammar has next tells its refusal too.
abbrev pub LeavesLink : Seen → Seen → Answer → Type 0
LeavesLink before now (answer.InputRefused kind offset) = (now.takes ≡ false) × (now.gives ≡ true) × (IsSome before.coming → IsSome now.coming)
LeavesLink before now answer.ReadFault = now.gives ≡ true
LeavesLink before now answer.WriteFault = now.takes ≡ true
LeavesLink before now answer.Memory = (now.takes ≡ true) ⊎ (now.gives ≡ true)
LeavesLink before now end = (now.takes ≡ true) × (now.gives ≡ true)

-- what a link shows at a replay's answer
pub record LinkAnswers (before now : Seen) (end : Answer) : Type 0 where
  pub leaves : LeavesLink before now end
  pub cause : HasAnswerCause before.counts now.counts end
