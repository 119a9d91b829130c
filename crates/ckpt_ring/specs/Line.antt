-- The saved slots of a store of pages in the order of saving, and how many pages were written between them: the checkpoints of what has its pages
-- there, shared by copy on write.
use Rattle.std.specs.Prelude.{◌≡◌, ◌⊎◌, ℕ, ◌+◌, ◌*◌, ◌<◌, ◌≤◌, Bool, true, false, not, ◌==◌, ◌||◌, nat_eq, if◌then◌else◌, List, [], ◌∷◌, ◌++◌, length, replicate, slice_get, slice_index, Option, Some, None, IsSome, All, Contains}
use Rattle.std.specs.List.{IsDistinct}
use Rattle.cow_pages.specs.Pages.{Space, Pages, slot_at, has}
use Rattle.cow_pages.specs.Writes.{reaches}
use Rattle.ckpt_ring.specs.Slots.{Checkpoint, Slots}

-- the numbers of the saved slots, the newest first, and how many of them are newer than the one on which the live space stands
pub record Line : Type 0 where
  pub order : List ℕ
  pub newer : ℕ

-- the line of these saved slots, of which so many are newer than the live space's
abbrev pub line_of : List ℕ → ℕ → Line
line_of order newer = record { order = order; newer = newer }

-- the slot on which the live space stands, if one is saved
abbrev pub base_of : Line → Option ℕ
base_of line = slice_get line.order line.newer

-- the frames of what is saved in a slot
abbrev pub frames_of : Option Space → List ℕ
frames_of None = []
frames_of (Some space) = space.numbers

-- the frames of what a store has in a slot
abbrev pub frames_in : Pages → ℕ → List ℕ
frames_in store slot = frames_of (slot_at store slot)

-- for each page whether its frame is another one
abbrev pub differ : List ℕ → List ℕ → List Bool
differ [] numbers = []
differ (x ∷ xs) [] = []
differ (x ∷ xs) (y ∷ ys) = not (x == y) ∷ differ xs ys

-- for each page of a space whether a byte of it was written since a slot: every page where there is no such slot, and else
-- those whose frame isn't that of the slot
abbrev pub written_since : Pages → Option ℕ → List ℕ → List Bool
written_since store None numbers = replicate store.pages true
written_since store (Some slot) numbers = differ (frames_in store slot) numbers

-- how many flags are set
abbrev pub count_true : List Bool → ℕ
count_true [] = 0
count_true (flag ∷ flags) = (if flag then 1 else 0) + count_true flags

-- for each page of the live space whether a byte of it was written since the slot on which it stands
abbrev pub written_pages : Pages → Line → List Bool
written_pages store line = written_since store (base_of line) store.live.numbers

module _ {State : Type 0} where
  -- saved slots with their states, each with the number of pages written since the slot before it
  abbrev pub checkpoints_in : (ℕ → State) → Pages → List ℕ → List (Checkpoint State)
  checkpoints_in state_in store [] = []
  checkpoints_in state_in store (slot ∷ older) =
      record { state = state_in slot; pages = count_true (written_since store (slice_get older 0) (frames_in store slot)) } ∷ checkpoints_in state_in store older

  -- what a ring of checkpoints sees: the live state, and the saved slots with their states
  abbrev pub slots_of : (ℕ → State) → State → Pages → Line → Slots State
  slots_of state_in live store line = record {
    live = live;
    saved = checkpoints_in state_in store line.order;
    newer = line.newer;
    written = count_true (written_pages store line);
    count = length store.slots;
    pages = store.pages;
    frames = store.frames;
  }

-- the frames of slots, one slot after the other
abbrev pub frames_of_all : Pages → List ℕ → List ℕ
frames_of_all store [] = []
frames_of_all store (slot ∷ slots) = frames_in store slot ++ frames_of_all store slots

-- a page that was written since a slot has a frame that none of these slots has
abbrev pub IsFresh : Pages → Option ℕ → List ℕ → List ℕ → Type 0
IsFresh store previous slots numbers =
    (page : ℕ) → page < store.pages → slice_get (written_since store previous numbers) page ≡ Some true → has (slice_index numbers page) (frames_of_all store slots) ≡ false

-- so it is of each saved slot and those before it
abbrev pub AreFresh : Pages → List ℕ → Type 0
AreFresh store [] = Unit {0}
AreFresh store (slot ∷ older) = IsFresh store (slice_get older 0) older (frames_in store slot) × AreFresh store older

-- what holds of a store and the line of its saved slots
pub record IsLine (store : Pages) (line : Line) : Type 0 where
  pub distinct : IsDistinct nat_eq line.order
  -- exactly the slots of the line are saved
  pub each_saved : All (λ slot. (slot < length store.slots) × IsSome (slot_at store slot)) line.order
  pub all_saved : (slot : ℕ) → IsSome (slot_at store slot) → Contains line.order slot
  -- the live space stands on one of them, if there is one
  pub base : (line.newer < length line.order) ⊎ ((line.order ≡ []) × (line.newer ≡ 0))
  -- a page that was written has a frame of its own since then
  pub fresh : AreFresh store line.order
  pub live : IsFresh store (base_of line) line.order store.live.numbers
  -- two spaces can be in use
  pub frames : 2 * store.pages ≤ store.frames

-- flags of pages, with those set that a write of so many bytes from an address on reaches
abbrev pub with_reached_from : ℕ → ℕ → ℕ → List Bool → List Bool
with_reached_from page at count [] = []
with_reached_from page at count (flag ∷ flags) = (flag || reaches at count page) ∷ with_reached_from (page + 1) at count flags

-- the flags of all pages, whose first begins at address 0, after such a write
abbrev pub with_reached : ℕ → ℕ → List Bool → List Bool
with_reached at count flags = with_reached_from 0 at count flags
