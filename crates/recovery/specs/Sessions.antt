-- Where a session stands whose program failed.
use Rattle.std.specs.Prelude.{◌≡◌, ℕ, ◌≤◌, ◌^◌, List, [], ◌∷◌, length, map, Bool, true, false, None}
use Rattle.recovery.specs.Terms.{Item, MAX_ITEMS, Send, sent_to, Entry, Choice, Heap, Checkpoint, Log, Ledger, Image, may_send, Override, Path, limits_of, CpuState, IsBounded, standing_of, Standing, events_of, heeded, items_in, received, AreSendable, KeepsItems, KeepsReplies, Rules, opens, AreBetween, AreInOrder, Covers, IsFeasible, passed_in, AreChained, AreCheckpoints}

-- A run of a session, from which its guest can go on unless it has ended: it is within the budget, it may send to connections alone that
-- were opened, it did so, and its sends stand in the order of time and have as many bytes as a piece may.
pub record CanGoOn (rules : Rules) (entries : List Entry) (path : Path) : Type 0 where
  pub bounded : path.state.ended ≡ None → IsBounded rules.limits.budget path
  pub within : (conn : ℕ) → may_send path.state.machine conn ≡ true → opens conn (heeded rules.bounds (events_of rules.bounds entries)) ≡ true
  pub opened : (conn : ℕ) → opens conn (heeded rules.bounds (events_of rules.bounds entries)) ≡ false → sent_to conn path.state.sends ≡ []
  pub timed : AreBetween 0 path.state.machine.taken path.state.sends
  pub sendable : AreSendable path.state.sends

-- a checkpoint from which a trial can begin: log and ledger have kept all that came after it
pub record IsKept (rules : Rules) (entries : List Entry) (log : Log) (ledger : Ledger) (checkpoint : Path) : Type 0 where
  pub lives : checkpoint.state.ended ≡ None
  pub goes : CanGoOn rules entries checkpoint
  pub items : log.first ≤ checkpoint.state.machine.taken
  pub sends : ledger.first ≤ length checkpoint.state.sends

abbrev pub AreKept : Rules → List Entry → Log → Ledger → List Path → Type 0
AreKept rules entries log ledger [] = Unit {0}
AreKept rules entries log ledger (newest ∷ older) = IsKept rules entries log ledger newest × AreKept rules entries log ledger older

-- a guest's checkpoints are those where these runs stand, the newest first
abbrev pub HasSaved : {R : Type 0} → CpuState R → List Path → Type 0
HasSaved cpu ring = map (λ (one : Checkpoint Standing). one.state) cpu.slots.saved ≡ map standing_of ring

-- A session whose survivor failed here, with the checkpoints of its ring as runs, from the newest to the oldest: the guest's slots have
-- them, log and ledger have the journal's items and replies, and the survivor emits what was passed, each byte in time.
pub record HasFailed {R : Type 0} (rules : Rules) (image : Image) (entries : List Entry) (plan : List Override) (failed : Path) (ring : List Path) (cpu : CpuState R) (log : Log) (ledger : Ledger) : Type 0 where
  pub items : KeepsItems rules.bounds entries log
  pub few_items : rules.bounds.max_items ≤ MAX_ITEMS
  pub replies : KeepsReplies rules.bounds entries None failed.state.sends ledger
  pub taken : failed.state.machine.taken ≤ received rules.bounds entries
  pub ordered : AreInOrder (received rules.bounds entries) (passed_in rules.bounds entries)
  pub covers : Covers (passed_in rules.bounds entries) failed.state
  pub feasible : IsFeasible (passed_in rules.bounds entries) failed.state
  pub chained : AreChained rules.limits (items_in rules.bounds entries) plan image failed ring
  pub checkpoints : AreCheckpoints rules.limits image ring
  pub kept : AreKept rules entries log ledger ring
  pub saved : HasSaved cpu ring

-- A failure as data: the session that it befell, as above.
pub record Failure : Type 0 where
  pub rules : Rules
  pub image : Image
  pub entries : List Entry
  pub plan : List Override
  pub failed : Path
  pub ring : List Path

-- the items that were received, and the pieces that were passed
abbrev pub items_of : Failure → List Item
items_of failure = items_in failure.rules.bounds failure.entries

abbrev pub pieces_of : Failure → List Send
pieces_of failure = passed_in failure.rules.bounds failure.entries

-- a session allows its guest so many instructions between two items, by this rule, whatever its environments are and for however many items
abbrev pub IsUnder : Failure → ℕ → (Heap → ℕ → ℕ → Bool) → Type 0
IsUnder failure budget permits = failure.rules.limits ≡ record (limits_of budget permits) { keep = failure.rules.limits.keep; base = failure.rules.limits.base }

-- the session failed so, with so many items taken
pub record FailedAt {R : Type 0} (point : ℕ) (failure : Failure) (cpu : CpuState R) (log : Log) (ledger : Ledger) : Type 0 where
  pub has : HasFailed failure.rules failure.image failure.entries failure.plan failure.failed failure.ring cpu log ledger
  pub point_is : failure.failed.state.machine.taken ≡ point
  pub few_steps : failure.rules.limits.budget ≤ 2 ^ 36
  pub some_keep : 1 ≤ failure.rules.limits.keep

-- from there trials can be made
pub record CanTry {R : Type 0} (budget : ℕ) (permits : Heap → ℕ → ℕ → Bool) (point : ℕ) (cpu : CpuState R) (log : Log) (ledger : Ledger) : Type 0 where
  pub failure : Failure
  pub under : IsUnder failure budget permits
  pub failed : FailedAt point failure cpu log ledger

-- how many items a state of a guest has taken
abbrev pub taken_in : Standing → ℕ
taken_in standing = standing.guest.machine.taken

-- What a session takes back: its guest with its checkpoints, what was received and sent, how many answers of the allocator are recorded, and those
-- behind them
pub record Held (R : Type 0) : Type 0 where
  pub cpu : CpuState R
  pub log : Log
  pub replies : Ledger
  pub recorded : ℕ
  pub choices : List Choice
