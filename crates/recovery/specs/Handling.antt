-- Which checkpoints stand, the newest first: what a session makes of the requests of its survivors.
use Rattle.std.specs.Prelude.{◌≡◌, ℕ, ◌+◌, ◌-◌, Bool, true, false, List, [], ◌∷◌, ◌++◌, length, map, take, drop, replicate, nat_le, if◌then◌else◌, Option, Some, None, IfSome, slice_get}
use Rattle.recovery.specs.Terms.{Entry, count_true, room_for, Checkpoint, Slots, page_numbers, with_whole_oldest, Image, base, AsksFor, Path, Served, origin, Standing, Writes, items_in, Chapter, Rules, Survivor, first_survivor, starting_path, IsCheckpoint, Recovery, Trial, survivor_in}
use Rattle.recovery.specs.Sessions.{taken_in}

-- How a session keeps its checkpoints: how many stand at most, how many items lie between two at least, how many pages the program's window
-- has, and how many frames hold the pages of all
pub record Keeping : Type 0 where
  pub ring : ℕ
  pub every : ℕ
  pub pages : ℕ
  pub frames : ℕ

-- a checkpoint that stands, of which only is told how many items were taken there
abbrev pub Stand : Type 0
Stand = Checkpoint ℕ

-- One stands alone. Before the oldest one all pages count as written.
abbrev pub alone : ℕ → ℕ → List Stand
alone taken pages = record { state = taken; pages = pages } ∷ []

-- so does the start at first
abbrev pub first_stands : Keeping → List Stand
first_stands keeping = alone 0 keeping.pages

-- whether enough items were taken since the newest one
abbrev pub is_far : ℕ → ℕ → Option Stand → Bool
is_far every taken None = true
is_far every taken (Some newest) = nat_le every (taken - newest.state)

-- Of a checkpoint with so many items taken and so many pages written since the newest one, and the others behind it, those stand that have room, the
-- oldest of them with all pages as its number.
abbrev pub with_another : Keeping → ℕ → ℕ → List Stand → List Stand
with_another keeping taken written stands =
    with_whole_oldest keeping.pages
    (take (room_for keeping.ring keeping.pages keeping.frames (written ∷ page_numbers stands)) (record { state = taken; pages = written } ∷ stands))

-- At a request for an item, with so many taken and so many pages written since the newest checkpoint, another one stands where enough items were
-- taken since.
abbrev pub handle : Keeping → ℕ → ℕ → List Stand → List Stand
handle keeping taken written stands = if is_far keeping.every taken (slice_get stands 0) then with_another keeping taken written stands else stands

-- Requests one after another, the first one with so many items taken and each later one with one more. The numbers are those of the pages
-- that were written before each, the latest first.
abbrev pub handled : Keeping → ℕ → List ℕ → List Stand → List Stand
handled keeping from [] stands = stands
handled keeping from (written ∷ earlier) stands = handle keeping (from + length earlier) written (handled keeping from earlier stands)

-- the runs of a ring took as many items as those that stand
abbrev pub HasRing : List Stand → List Path → Type 0
HasRing stands ring = map (λ (one : Stand). one.state) stands ≡ map (λ (path : Path). path.state.machine.taken) ring

-- So many pages were written by a survivor's run, from a checkpoint of it with so many items taken to its request with so many.
pub record HasWritten (rules : Rules) (image : Image) (entries : List Entry) (survivor : Survivor) (pages : ℕ) (from to count : ℕ) : Type 0 where
  pub checkpoint : Path
  pub is_checkpoint : IsCheckpoint rules.limits image checkpoint
  pub taken_is : checkpoint.state.machine.taken ≡ from
  pub request : Path
  pub asks : AsksFor rules.limits [] request to
  pub begins : Served rules.limits (items_in rules.bounds entries) survivor.plan (origin image) checkpoint
  pub goes : Served rules.limits (items_in rules.bounds entries) survivor.plan checkpoint request
  pub later : Served rules.limits (items_in rules.bounds entries) survivor.plan request survivor.now
  pub flags : List Bool
  pub wrote : Writes rules.limits (items_in rules.bounds entries) (base image) checkpoint (replicate pages false) request flags
  pub count_is : count ≡ count_true flags

-- Before each request those pages count that were written since the newest checkpoint that stood then.
abbrev pub AreWritten : Rules → Image → List Entry → Survivor → Keeping → ℕ → List ℕ → List Stand → Type 0
AreWritten rules image entries survivor keeping from [] stands = Unit {0}
AreWritten rules image entries survivor keeping from (written ∷ earlier) stands =
    IfSome (slice_get (handled keeping from earlier stands) 0) (λ newest. HasWritten rules image entries survivor keeping.pages newest.state (from + length earlier) written)
    × AreWritten rules image entries survivor keeping from earlier stands

-- What stood at a recovery, behind all entries that the journal had at the failure: the survivor's requests from where it began to where it failed
-- were handled, each of them once, with the pages that it had written, and its ring is of those that stand then. Of them those stand on that
-- aren't newer than the checkpoint of the trial that was adopted.
pub record IsRinged (rules : Rules) (image : Image) (entries : List Entry) (keeping : Keeping) (recovery : Recovery) (written : List ℕ) (from next : List Stand) : Type 0 where
  pub many : recovery.survivor.begun.state.machine.taken + length written ≡ recovery.survivor.now.state.machine.taken
  pub pages : AreWritten rules image entries recovery.survivor keeping recovery.survivor.begun.state.machine.taken written from
  pub ring : HasRing (handled keeping recovery.survivor.begun.state.machine.taken written from) recovery.ring
  pub trial : Trial
  pub adopted : survivor_in recovery.trials ≡ Some trial
  pub index : ℕ
  pub checkpoint_is : slice_get recovery.ring index ≡ Some trial.chance.checkpoint
  pub next_is : next ≡ drop index (handled keeping recovery.survivor.begun.state.machine.taken written from)

-- So it is at each of some recoveries, behind some entries and those of the chapters up to it: from those that stand before the first one to
-- those behind the last. There are as many chapters as recoveries.
abbrev pub AreRinged : Rules → Image → List Entry → Keeping → List Stand → List Chapter → List Recovery → List (List ℕ) → List Stand → Type 0
AreRinged rules image before keeping from [] [] [] last = last ≡ from
AreRinged rules image before keeping from (chapter ∷ chapters) (recovery ∷ recoveries) (written ∷ others) last =
    (next : List Stand) × IsRinged rules image (before ++ chapter.entries) keeping recovery written from next
    × AreRinged rules image (before ++ chapter.entries) keeping next chapters recoveries others last
AreRinged rules image before keeping from _ _ _ last = ⊥

-- The requests of a part that was followed before a session were handled: as many as items were taken there, each with the pages that were written
-- before it. The numbers are those of pages, the latest first.
pub record HasFollowedRequests (rules : Rules) (image : Image) (keeping : Keeping) (followed : List ℕ) : Type 0 where
  pub many : length followed ≡ (starting_path rules image).state.machine.taken
  pub pages : AreWritten rules image [] (first_survivor rules image) keeping 0 followed (first_stands keeping)

-- what stands where a session begins, behind those requests
abbrev pub starting_stands : Keeping → List ℕ → List Stand
starting_stands keeping followed = handled keeping 0 followed (first_stands keeping)

-- each of some recoveries had the ring that the requests before it left, from the start of the run on
pub record HaveRings (rules : Rules) (image : Image) (keeping : Keeping) (chapters : List Chapter) (recoveries : List Recovery) : Type 0 where
  pub followed : List ℕ
  pub before : HasFollowedRequests rules image keeping followed
  pub written : List (List ℕ)
  pub last : List Stand
  pub rings : AreRinged rules image [] keeping (starting_stands keeping followed) chapters recoveries written last

-- What stands behind some recoveries, where so many requests were made before which the last survivor's were handled: those from where it began.
-- The entries are all that the journal has.
pub record HasHandled (rules : Rules) (image : Image) (keeping : Keeping) (chapters : List Chapter) (entries : List Entry) (recoveries : List Recovery) (survivor : Survivor) (requests : ℕ) (stands : List Stand) : Type 0 where
  pub followed : List ℕ
  pub before : HasFollowedRequests rules image keeping followed
  pub earlier : List (List ℕ)
  pub begun : List Stand
  pub rings : AreRinged rules image [] keeping (starting_stands keeping followed) chapters recoveries earlier begun
  pub written : List ℕ
  pub many : survivor.begun.state.machine.taken + length written ≡ requests
  pub pages : AreWritten rules image entries survivor keeping survivor.begun.state.machine.taken written begun
  pub stands_are : stands ≡ handled keeping survivor.begun.state.machine.taken written begun

-- a guest's checkpoints as those that stand
abbrev pub stand_of : Checkpoint Standing → Stand
stand_of one = record { state = taken_in one.state; pages = one.pages }

abbrev pub stands_of : List (Checkpoint Standing) → List Stand
stands_of saved = map stand_of saved

-- how a guest keeps its checkpoints
abbrev pub keeping_by : ℕ → Slots Standing → Keeping
keeping_by every slots = record { ring = slots.count; every = every; pages = slots.pages; frames = slots.frames }
