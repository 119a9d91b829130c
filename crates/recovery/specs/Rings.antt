-- A session's checkpoints beside its log and its ledger.
use Rattle.std.specs.Prelude.{◌≡◌, ℕ, ◌<◌, ◌≤◌, Bool, true, false, List, [], ◌∷◌, ◌++◌, length, take, replicate, nat_lt, if◌then◌else◌, IfSome, slice_get}
use Rattle.guest_image.specs.Image as images
use Rattle.recovery.specs.Terms.{Item, Entry, Env, saved_in_ring, Log, Ledger, Image, AsksFor, Override, Path, env_at, origin, CpuState, standing_of, Writes, events_of, heeded, items_in, Rules, opens, AreChained, AreCheckpoints}
use Rattle.recovery.specs.Sessions.{AreKept, CanGoOn, HasSaved}

-- a guest that stands on its newest checkpoint
pub record StandsOnNewest {R : Type 0} (cpu : CpuState R) : Type 0 where
  pub some : 0 < length cpu.slots.saved
  pub newest : cpu.slots.newer ≡ 0

-- a guest without checkpoints, of which some can stand
pub record HasNoCheckpoint {R : Type 0} (cpu : CpuState R) : Type 0 where
  pub saved : cpu.slots.saved ≡ []
  pub newest : cpu.slots.newer ≡ 0
  pub some : 1 ≤ cpu.slots.count

-- a guest at the start of a program, beside a log and a ledger that have given up nothing
pub record IsAtStart {R : Type 0} (image : Image) (cpu : CpuState R) (log : Log) (ledger : Ledger) : Type 0 where
  pub live : cpu.slots.live ≡ standing_of (origin image)
  pub window : cpu.base ≡ images.base image
  pub items : log.first ≡ 0
  pub sends : ledger.first ≡ 0

-- a save leaves a guest's live state, its rule and its window, and how many checkpoints can stand
pub record KeepsGuest {R : Type 0} (old new : CpuState R) : Type 0 where
  pub live : new.slots.live ≡ old.slots.live
  pub rule : new.rule ≡ old.rule
  pub base : new.base ≡ old.base
  pub count : new.slots.count ≡ old.slots.count

-- The checkpoints of a session's guest as runs, the newest first, beside its log and its ledger. The guest stands on the newest. Its window is
-- that of the image, and its flags of pages say which of them the run wrote since the newest checkpoint.
pub record KeepsRing {R : Type 0} (rules : Rules) (image : Image) (entries : List Entry) (plan : List Override) (now : Path) (ring : List Path) (cpu : CpuState R) (log : Log) (ledger : Ledger) : Type 0 where
  pub some : 0 < length ring
  pub chained : AreChained rules.limits (items_in rules.bounds entries) plan image now ring
  pub are : AreCheckpoints rules.limits image ring
  pub kept : AreKept rules entries log ledger ring
  pub saved : HasSaved cpu ring
  pub newest : cpu.slots.newer ≡ 0
  pub window : cpu.base ≡ images.base image
  pub wrote : IfSome (slice_get ring 0) (λ newest. Writes rules.limits (items_in rules.bounds entries) cpu.base newest (replicate cpu.slots.pages false) now cpu.written)

-- A session's checkpoints where its guest stands at its request for an item, with so many taken: a trial could begin there.
pub record CanSave {R : Type 0} (rules : Rules) (image : Image) (entries : List Entry) (plan : List Override) (now : Path) (paths : List Path) (cpu : CpuState R) (log : Log) (ledger : Ledger) (taken : ℕ) : Type 0 where
  pub ring : KeepsRing rules image entries plan now paths cpu log ledger
  pub live : cpu.slots.live ≡ standing_of now
  pub asks : AsksFor rules.limits plan now taken
  pub goes : CanGoOn rules entries now
  pub items : log.first ≤ taken
  pub sends : ledger.first ≤ length now.state.sends

-- at each of some checkpoints so many answers of the allocator were used, or more
abbrev pub AreBehind : ℕ → List Path → Type 0
AreBehind count [] = Unit {0}
AreBehind count (newest ∷ older) = (count ≤ length newest.choices) × AreBehind count older

-- with more entries a journal brings these items more, and what was opened stays opened
pub record Brings (rules : Rules) (before after : List Entry) (more : List Item) : Type 0 where
  pub items : items_in rules.bounds after ≡ items_in rules.bounds before ++ more
  pub opened : (conn : ℕ) → opens conn (heeded rules.bounds (events_of rules.bounds before)) ≡ true → opens conn (heeded rules.bounds (events_of rules.bounds after)) ≡ true

module _ {R : Type 0} where
  -- where a checkpoint is due the live state was saved; else nothing changed
  abbrev pub SavesIf : Bool → CpuState R → CpuState R → Type 0
  SavesIf true old new = new.slots ≡ saved_in_ring old.slots
  SavesIf false old new = new ≡ old

-- the checkpoints as runs then: of the run that was saved and those before it the newest ones, as many as stand
abbrev pub ring_if : Bool → ℕ → Path → List Path → List Path
ring_if true count now ring = take count (now ∷ ring)
ring_if false count now ring = ring

-- From so many items taken on an environment is in force, up to a number of items; then the base.
pub record IsInForce (base : Env) (plan : List Override) (taken : ℕ) (env : Env) (until : ℕ) : Type 0 where
  pub in_force : (count : ℕ) → taken ≤ count → env_at base plan count ≡ (if nat_lt count until then env else base)
