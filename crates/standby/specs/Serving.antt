-- What it is to serve on from where a record ended.
use Rattle.std.specs.Prelude.{◌≡◌, ℕ, ◌<◌, ◌≤◌, ◌^◌, List, [], ◌∷◌, ◌++◌, length, false, true, Option, Some, IfSome}
use Rattle.links.specs.declared.journal.Entry.TheVariants as entry
use Rattle.links.specs.declared.journal.LinkEvent.TheVariants as event
use Rattle.run_history.specs.declared.answer.Answer.TheVariants as answer
use Rattle.session_history.specs.Heeding as unheeded
use Rattle.standby.specs.Terms.{Item, KEEP, Prefix, sent_to, Entry, LinkEvent, Coming, HasEnded, IsNext, Refuses, Tells, Told, events_in, pieces_in, Seen, Choice, is_bare, Plain, Image, Answer, Run, AsksFor, FailsBy, IsLaidOut, Limits, Path, Served, guest_of, IsLastRefused, IsLastTooLong, heeded, items_in, received, Recorded, count_of, AreOfLines, bounds_of}
use Rattle.standby.specs.declared.follower.Follower.{Follower}
use Rattle.standby.specs.Following.{HasCaughtUp}
use Rattle.standby.specs.Missing.{AllGiven, PartGiven}

-- so many instructions between two items, and no access rule
abbrev pub plain_limits : ℕ → Limits
plain_limits budget = record { budget = budget; permits = λ heap at count. true; keep = KEEP; base = Plain }

-- Where a record ended: its run has as many instructions as the record, used all of its lines, and took as many items. The layout is that of its live
-- blocks alone: nothing else stands in its heap, and no block is padded.
pub record IsRecordsEnd (image : Image) (recorded : Recorded) (items : List Item) (path : Path) : Type 0 where
  pub ran : Run image items path.choices path.steps path.state
  pub steps : path.steps ≡ recorded.steps
  pub lines : AreOfLines recorded.lines path.choices
  pub all : length path.choices ≡ length recorded.lines
  pub taken : path.state.machine.taken ≡ recorded.taken
  pub laid_out : IsLaidOut (guest_of path)
  pub bare : is_bare path.heap ≡ true

-- A run follows a record: up to the record's end it is the record's, and from there on it is served in the environment Plain.
pub record IsFollowed (image : Image) (recorded : Recorded) (budget : ℕ) (items : List Item) (path : Path) : Type 0 where
  pub seam : Path
  pub is_seam : IsRecordsEnd image recorded items seam
  pub served : Served (plain_limits budget) items [] seam path

-- the run asks for the item that is received next
abbrev pub AsksNext : Recorded → ℕ → List Entry → Path → Type 0
AsksNext recorded budget entries path = AsksFor (plain_limits budget) [] path (received (bounds_of recorded) entries)

-- With a journal such a run stands at its request for the item that is received next. Clients got all that they missed, every event is heeded, and
-- the link hasn't ended.
pub record WasServed (image : Image) (recorded : Recorded) (budget : ℕ) (counts : List (ℕ × ℕ)) (from before : List Entry) : Type 0 where
  pub path : Path
  pub followed : IsFollowed image recorded budget (items_in (bounds_of recorded) before) path
  pub asks : AsksNext recorded budget before path
  pub given : AllGiven counts (events_in from) followed.seam path (pieces_in before)
  pub heeds : heeded (bounds_of recorded) (events_in before) ≡ events_in before
  pub goes_on : HasEnded before → ⊥

-- and behind those entries no event was taken but there
abbrev pub AreServed : Image → Recorded → ℕ → List (ℕ × ℕ) → List Entry → List Entry → Type 0
AreServed image recorded budget counts from entries =
    (before after : List Entry) (event : LinkEvent) → entries ≡ before ++ entry.Took event ∷ after → length from ≤ length before → WasServed image recorded budget counts from before

-- What stands behind each answer: at each end all was given; at a fault of reading and at a refusal an event was asked for.
abbrev pub EndsBy : Recorded → ℕ → List Entry → Path → Option Coming → Type 0 → Type 0 → Answer → Type 0
EndsBy recorded budget entries path coming Given Asked answer.Finished = Given × AsksNext recorded budget entries path × HasEnded entries × IfSome coming (λ next. IsNext next event.Ends)
EndsBy recorded budget entries path coming Given Asked (answer.Exited code) = Given × (path.state.ended ≡ Some code)
EndsBy recorded budget entries path coming Given Asked (answer.GaveUp point cause) = Given × FailsBy (plain_limits budget) [] path cause × (point ≡ path.state.machine.taken)
EndsBy recorded budget entries path coming Given Asked (answer.InputRefused kind offset) = Given × Asked × AsksNext recorded budget entries path × IfSome coming (λ next. next ≡ Refuses kind offset)
EndsBy recorded budget entries path coming Given Asked (answer.MessageTooLong conn) = Given × AsksNext recorded budget entries path × IsLastTooLong (bounds_of recorded) entries conn
EndsBy recorded budget entries path coming Given Asked answer.LimitItems = Given × AsksNext recorded budget entries path × IsLastRefused (bounds_of recorded) entries unheeded.LimitItems
EndsBy recorded budget entries path coming Given Asked answer.LimitEvents = Given × AsksNext recorded budget entries path × IsLastRefused (bounds_of recorded) entries unheeded.LimitEvents
EndsBy recorded budget entries path coming Given Asked answer.ReadFault = Given × Asked × AsksNext recorded budget entries path
EndsBy recorded budget entries path coming Given Asked answer.WriteFault = Unit {0}
EndsBy recorded budget entries path coming Given Asked answer.Memory = Unit {0}
EndsBy recorded budget entries path coming Given Asked end = ⊥

-- the answers of the allocator that were kept are those of the run; where memory ran out the last one may be missing
abbrev pub AreTold : Answer → List Choice → List Choice → Type 0
AreTold answer.Memory choices used = Prefix choices used
AreTold end choices used = choices ≡ used

-- What serving leaves at each answer: one run, which followed the record and was served on, and what went to its clients. All of it is said by one
-- journal, whose first entries came while the record was followed.
pub record HasServed (image : Image) (recorded : Recorded) (budget : ℕ) (counts : List (ℕ × ℕ)) (began : Told) (now : Seen) (from : List Entry) (end : Answer) (follower : Follower) : Type 0 where
  pub entries : List Entry
  pub path : Path
  pub since : List Entry
  pub behind : entries ≡ from ++ since
  pub tells : Tells began now.told entries
  pub followed : IsFollowed image recorded budget (items_in (bounds_of recorded) entries) path
  pub few : (conn : ℕ) → count_of counts conn ≤ length (sent_to conn followed.seam.state.sends)
  pub steps : follower.player.cpu.slots.live.steps ≡ path.steps
  pub taken : follower.player.cpu.slots.live.guest.machine.taken ≡ path.state.machine.taken
  pub choices : AreTold end follower.player.choices.items path.choices
  pub given : PartGiven counts (events_in from) followed.seam path (pieces_in entries)
  pub asked : AreServed image recorded budget counts from entries
  pub ends : EndsBy recorded budget entries path now.coming (AllGiven counts (events_in from) followed.seam path (pieces_in entries)) (WasServed image recorded budget counts from entries) end
  pub failed : now.takes ≡ false → WasServed image recorded budget counts from entries

-- a follower may serve: it has caught up with a record of fewer than 2^62 instructions
pub record MayServe (seen : Seen) (follower : Follower) : Type 0 where
  pub image : Image
  pub recorded : Recorded
  pub began : Told
  pub up : HasCaughtUp image recorded began seen follower
  pub low : recorded.steps < 2 ^ 62
