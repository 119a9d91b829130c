-- What holds while a record is replayed.
use Rattle.std.specs.Prelude.{◌≡◌, ℕ, ◌+◌, ◌-◌, ◌<◌, ◌≤◌, ◌^◌, Bool, true, false, List, [], ◌∷◌, ◌++◌, length, drop, None, Some, Result, Ok, Err, slice_get, unwrap_or, IfOk, IsErrOf, IsSome}
use Rattle.rx_base.specs.Faults.{Rose}
use Rattle.run_history.specs.declared.answer.Answer.TheVariants as answer
use Rattle.replay.specs.Terms.{Item, Send, Entry, Counts, HasEnded, Open, Phases, Tells, Told, events_in, pieces_in, Seen, Ask, Choice, is_allowed, is_bare, Log, Image, Answer, connections_after, Chooses, State, Wants, does, chosen_standing, Standing, items_in, received, KeepsItems, KeepsPhases, Line, Recorded}
use Rattle.replay.specs.declared.player.Player.{Player}
use Rattle.replay.specs.Giving.{found_gone, AreGiven}
use Rattle.replay.specs.Replaying.{Replay, IsReplay, AreAsked, bounds_of, choice_by, EndsBy, IsAsking, IsUnusable, LeavesLink}

-- the state of a guest that stands so, and has sent this
abbrev pub state_of : List Send → Standing → State
state_of sends s = record { machine = s.guest.machine; sends = sends; ended = s.ended }

-- the replay that such a guest is, which used these answers of the allocator
abbrev pub replay_of : List Choice → List Send → Standing → Replay
replay_of choices sends s = record { steps = s.steps; choices = choices; state = state_of sends s }

-- what of a player changes: where its guest stands, its log, how many events came, the connections that were found gone, and the answers of
-- the allocator that were used
pub record Stage : Type 0 where
  pub live : Standing
  pub log : Log
  pub events : ℕ
  pub gone : List Bool
  pub choices : List Choice

abbrev pub stage_of : Player → Stage
stage_of player = record { live = player.cpu.slots.live; log = player.log; events = player.events; gone = player.gone; choices = player.choices.items }

-- a set has a connection
abbrev pub has : List Bool → ℕ → Bool
has connections conn = unwrap_or (slice_get connections conn) false

-- each connection that may be sent to is open
abbrev pub AreOpen : Phases → List Bool → Type 0
AreOpen phases connections = (conn : ℕ) → has connections conn ≡ true → phases conn ≡ Open

-- and so it stays while these items are taken
abbrev pub StayOpen : Phases → List Item → List Bool → Type 0
StayOpen phases [] connections = AreOpen phases connections
StayOpen phases (item ∷ items) connections = AreOpen phases connections × StayOpen phases items (connections_after item connections)

-- it is so once the first of these items was taken, if there is one, and stays so
abbrev pub AreOpenThen : Phases → List Item → List Bool → Type 0
AreOpenThen phases [] connections = AreOpen phases connections
AreOpenThen phases (item ∷ items) connections = StayOpen phases items (connections_after item connections)

-- What holds at any time, by what the link told and what the run sent.
pub record IsBase (image : Image) (recorded : Recorded) (began : Told) (seen : Seen) (entries : List Entry) (sends : List Send) (stage : Stage) : Type 0 where
  pub tells : Tells began seen.told entries
  pub asked : AreAsked image recorded entries
  pub is : IsReplay image recorded entries (replay_of stage.choices sends stage.live)
  pub items : KeepsItems (bounds_of recorded) entries stage.log
  pub goes_on : HasEnded entries → ⊥
  pub first : stage.log.first ≡ 0
  pub events : stage.events ≡ length (events_in entries)
  pub phases_are : KeepsPhases (bounds_of recorded) entries seen.phases
  pub gone : (conn : ℕ) → has stage.gone conn ≡ found_gone conn (pieces_in entries)
  pub places : length stage.gone ≡ 4096
  pub taken : stage.live.guest.machine.taken ≤ received (bounds_of recorded) entries
  pub connected : AreOpenThen seen.phases (drop stage.live.guest.machine.taken (items_in (bounds_of recorded) entries)) stage.live.guest.machine.connections
  pub bare : is_bare stage.live.guest.heap ≡ true

-- all sends are given
pub record IsPlaying (image : Image) (recorded : Recorded) (began : Told) (seen : Seen) (stage : Stage) : Type 0 where
  pub entries : List Entry
  pub sends : List Send
  pub base : IsBase image recorded began seen entries sends stage
  pub given : AreGiven sends (pieces_in entries)

-- between two questions of the guest
pub record IsBetween (image : Image) (recorded : Recorded) (began : Told) (seen : Seen) (stage : Stage) : Type 0 where
  pub playing : IsPlaying image recorded began seen stage
  pub opened : AreOpen seen.phases stage.live.guest.machine.connections
  pub lives : stage.live.ended ≡ None

-- where the guest asks for an item
pub record IsWaiting (image : Image) (recorded : Recorded) (began : Told) (seen : Seen) (stage : Stage) : Type 0 where
  pub playing : IsPlaying image recorded began seen stage
  pub lives : stage.live.ended ≡ None
  pub shorter : stage.live.steps < recorded.steps
  pub asks : does None None stage.live.guest.machine ≡ Wants

-- where it wants an answer of the allocator to an ask
pub record IsWanting (image : Image) (recorded : Recorded) (began : Told) (seen : Seen) (ask : Ask) (stage : Stage) : Type 0 where
  pub between : IsBetween image recorded began seen stage
  pub shorter : stage.live.steps < recorded.steps
  pub wants : does None None stage.live.guest.machine ≡ Chooses ask

-- where it has just sent bytes to a connection
pub record IsSending (image : Image) (recorded : Recorded) (began : Told) (seen : Seen) (conn : ℕ) (bytes : List ℕ) (stage : Stage) : Type 0 where
  pub entries : List Entry
  pub sends : List Send
  pub stamp : ℕ
  pub base : IsBase image recorded began seen entries (sends ++ record { conn = conn; bytes = bytes; taken = stamp } ∷ []) stage
  pub given : AreGiven sends (pieces_in entries)
  pub opened : AreOpen seen.phases stage.live.guest.machine.connections
  pub lives : stage.live.ended ≡ None
  pub here : seen.phases conn ≡ Open
  pub some : 0 < length bytes
  pub few : length bytes ≤ 65535

-- The replay has ended with an answer. All sends are given where the link gives still; where it gives no more, this holds of them.
pub record IsEnd (image : Image) (recorded : Recorded) (began : Told) (seen : Seen) (Last : List Send → Type 0) (stage : Stage) (end : Answer) : Type 0 where
  pub entries : List Entry
  pub sends : List Send
  pub tells : Tells began seen.told entries
  pub asked : AreAsked image recorded entries
  pub is : IsReplay image recorded entries (replay_of stage.choices sends stage.live)
  pub ends : EndsBy image recorded entries seen.coming (replay_of stage.choices sends stage.live) end
  pub failed : seen.takes ≡ false → IsAsking image recorded entries (replay_of stage.choices sends stage.live)
  pub given : seen.gives ≡ true → AreGiven sends (pieces_in entries)
  pub last : seen.gives ≡ false → Last sends

-- it has ended with all sends given
pub record IsWholeEnd (image : Image) (recorded : Recorded) (began : Told) (seen : Seen) (stage : Stage) (end : Answer) : Type 0 where
  pub entries : List Entry
  pub sends : List Send
  pub tells : Tells began seen.told entries
  pub asked : AreAsked image recorded entries
  pub is : IsReplay image recorded entries (replay_of stage.choices sends stage.live)
  pub ends : EndsBy image recorded entries seen.coming (replay_of stage.choices sends stage.live) end
  pub failed : seen.takes ≡ false → IsAsking image recorded entries (replay_of stage.choices sends stage.live)
  pub given : AreGiven sends (pieces_in entries)

-- it goes on, or has ended
abbrev pub TurnsBy : Image → Recorded → Told → Seen → (List Send → Type 0) → Stage → Result (Unit {0}) Answer → Type 0
TurnsBy image recorded began seen Last stage (Ok done) = IsBetween image recorded began seen stage
TurnsBy image recorded began seen Last stage (Err end) = IsEnd image recorded began seen Last stage end

-- the same with all sends given
abbrev pub GoesOnBy : Image → Recorded → Told → Seen → Stage → Result (Unit {0}) Answer → Type 0
GoesOnBy image recorded began seen stage (Ok done) = IsBetween image recorded began seen stage
GoesOnBy image recorded began seen stage (Err end) = IsWholeEnd image recorded began seen stage end

-- its guest waits still, or it has ended
abbrev pub WaitsBy : Image → Recorded → Told → Seen → Stage → Result (Unit {0}) Answer → Type 0
WaitsBy image recorded began seen stage (Ok done) = IsWaiting image recorded began seen stage
WaitsBy image recorded began seen stage (Err end) = IsWholeEnd image recorded began seen stage end

-- a replay stands so for some image, since some time, and no call of its link has failed
pub record StandsBetween (recorded : Recorded) (seen : Seen) (stage : Stage) : Type 0 where
  pub image : Image
  pub began : Told
  pub is : IsBetween image recorded began seen stage
  pub takes : seen.takes ≡ true
  pub gives : seen.gives ≡ true

-- so it stands where its guest asks for an item
pub record StandsWaiting (recorded : Recorded) (seen : Seen) (stage : Stage) : Type 0 where
  pub image : Image
  pub began : Told
  pub is : IsWaiting image recorded began seen stage
  pub takes : seen.takes ≡ true
  pub gives : seen.gives ≡ true

-- its guest wants an answer to this, before the record's last instruction, and each block of its heap is live and without padding
pub record StandsWanting (recorded : Recorded) (ask : Ask) (live : Standing) : Type 0 where
  pub wants : does None None live.guest.machine ≡ Chooses ask
  pub bare : is_bare live.guest.heap ≡ true
  pub shorter : live.steps < recorded.steps
  pub lives : live.ended ≡ None
  pub room : live.steps < 2 ^ 64 - 1

-- and so where it has just sent bytes, for some record
pub record StandsSending (seen : Seen) (conn : ℕ) (bytes : List ℕ) (stage : Stage) : Type 0 where
  pub image : Image
  pub recorded : Recorded
  pub began : Told
  pub is : IsSending image recorded began seen conn bytes stage
  pub takes : seen.takes ≡ true
  pub gives : seen.gives ≡ true

-- An answer of the allocator was used: the one that the record's next line tells of. C allows it, and the heap stays bare.
pub record UsesLine (recorded : Recorded) (ask : Ask) (old new : Stage) : Type 0 where
  pub line : Line
  pub here : slice_get recorded.lines old.live.guest.machine.allocations ≡ Some line
  pub allowed : is_allowed old.live.guest.machine.heap_start old.live.guest.machine.heap_end old.live.guest.machine.blocks ask (choice_by ask line) ≡ true
  pub left : new ≡ record old { live = chosen_standing (choice_by ask line) old.live; choices = old.choices ++ choice_by ask line ∷ [] }
  pub bare : is_bare new.live.guest.heap ≡ true

-- So it was, or none can be used, or memory ran out; then nothing changed.
abbrev pub UsesBy : Recorded → Ask → Stage → Stage → Result (Unit {0}) Answer → Type 0
UsesBy recorded ask old new (Ok done) = UsesLine recorded ask old new
UsesBy recorded ask old new (Err (answer.Mismatch step)) =
    (step ≡ old.live.steps) × (new ≡ old) × IsUnusable old.live.guest.machine ask (slice_get recorded.lines old.live.guest.machine.allocations)
UsesBy recorded ask old new (Err answer.Memory) = new ≡ old
UsesBy recorded ask old new (Err end) = ⊥

-- No call of the link has failed, and it tells what comes, if it did before; or the replay has ended.
abbrev pub LeavesBy : Seen → Seen → Result (Unit {0}) Answer → Type 0
LeavesBy before now (Ok done) = (now.takes ≡ true) × (now.gives ≡ true) × (IsSome before.coming → IsSome now.coming)
LeavesBy before now (Err end) = LeavesLink before now end

-- no count of failed calls falls, and a fault is answered only where its own rose
pub record HasCause {X : Type 0} (before now : Counts) (result : Result X Answer) : Type 0 where
  pub takes : before.takes ≤ now.takes
  pub gives : before.gives ≤ now.gives
  pub read_fault : IsErrOf result answer.ReadFault → Rose before.takes now.takes
  pub write_fault : IsErrOf result answer.WriteFault → Rose before.gives now.gives

-- no fault and no refusal is answered
abbrev pub HasNoFault : Result (Unit {0}) Answer → Type 0
HasNoFault (Err (answer.InputRefused kind offset)) = ⊥
HasNoFault (Err answer.ReadFault) = ⊥
HasNoFault (Err answer.WriteFault) = ⊥
HasNoFault _ = Unit {0}

-- what a link shows behind a turn: which of its calls have failed, and why
pub record LinkTurns (before now : Seen) (result : Result (Unit {0}) Answer) : Type 0 where
  pub leaves : LeavesBy before now result
  pub cause : HasCause before.counts now.counts result

-- what it shows where no piece was given
pub record LinkHears (before now : Seen) (result : Result (Unit {0}) Answer) : Type 0 where
  pub leaves : LeavesBy before now result
  pub cause : HasCause before.counts now.counts result
  pub gives : now.gives ≡ before.gives

-- The counter of steps grows by the instructions that were executed. Where a replay goes on, some were.
pub record CountsSteps (counter counter_later old new : ℕ) (result : Result (Unit {0}) Answer) : Type 0 where
  pub later : IfOk result (λ _. old < new)
  pub counted : counter_later + old ≡ counter + new

-- one more event came, or none, and the guest stays
pub record CountsEvent (old new : Player) (result : Result (Unit {0}) Answer) : Type 0 where
  pub cpu : new.cpu ≡ old.cpu
  pub later : IfOk result (λ _. (old.events < 2 ^ 32) × (new.events ≡ old.events + 1))
