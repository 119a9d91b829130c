-- What a store of pages holds: a live space and numbered slots, each of them pages of PAGE bytes.
use Rattle.std.specs.Prelude.{◌≡◌, ℕ, ◌+◌, ◌*◌, ◌<◌, ◌≤◌, Bool, false, ◌||◌, ◌==◌, if◌then◌else◌, Option, Some, None, List, [], ◌∷◌, ◌++◌, length, take, drop, replicate, slice_index, slice_index_or, ◌⊎◌}
use Rattle.cow_pages.specs.declared.frame_copy.TheConstants.{PAGE}
use Rattle.cow_pages.specs.declared.store.TheConstants.{MAX_FRAMES_PER_PAGE, MAX_PAGES}

-- one space: the number of the frame in which each page stands, and all its bytes
pub record Space : Type 0 where
  pub numbers : List ℕ
  pub bytes : List ℕ

-- a store: its pages and frames, what it works on, and what stands in each slot
pub record Pages : Type 0 where
  pub pages : ℕ
  pub frames : ℕ
  pub live : Space
  pub slots : List (Option Space)

-- whether a list has a number
abbrev pub has : ℕ → List ℕ → Bool
has n [] = false
has n (x ∷ xs) = (x == n) || has n xs

-- how many different numbers a list has
abbrev pub different : List ℕ → ℕ
different [] = 0
different (x ∷ xs) = if has x xs then different xs else different xs + 1

-- the numbers of all saved slots, one slot after the other
abbrev pub saved_numbers : List (Option Space) → List ℕ
saved_numbers [] = []
saved_numbers (None ∷ slots) = saved_numbers slots
saved_numbers (Some space ∷ slots) = space.numbers ++ saved_numbers slots

-- how many frames the saved slots hold
abbrev pub held_of : Pages → ℕ
held_of store = different (saved_numbers store.slots)

-- how many frames the live space and the saved slots hold
abbrev pub used_of : Pages → ℕ
used_of store = different (store.live.numbers ++ saved_numbers store.slots)

-- what is saved in a slot; nothing stands past the last one
abbrev pub slot_at : Pages → ℕ → Option Space
slot_at store slot = slice_index_or store.slots slot None

-- the bytes of one page of a space
abbrev pub page_of : Space → ℕ → List ℕ
page_of space page = take PAGE (drop (PAGE * page) space.bytes)

-- a space has a number below the frames for each page, and PAGE bytes for each page
pub record IsSpace (pages frames : ℕ) (space : Space) : Type 0 where
  pub numbers : length space.numbers ≡ pages
  pub below : (page : ℕ) → page < pages → slice_index space.numbers page < frames
  pub bytes : length space.bytes ≡ PAGE * pages

-- a number that two spaces have is that of one and the same page, which has the same bytes in both
abbrev pub Agree : Space → Space → Type 0
Agree one other = (page place : ℕ) → page < length one.numbers → place < length other.numbers → slice_index one.numbers page ≡ slice_index other.numbers place → (page ≡ place) × (page_of one page ≡ page_of other place)

-- a space of a store: the live one, or one that is saved
abbrev pub Stands : Pages → Space → Type 0
Stands store space = (space ≡ store.live) ⊎ ((slot : ℕ) × (slot_at store slot ≡ Some space))

-- what holds of every store: there is a free frame for each page that a write may have to copy, and equal numbers are shared pages
pub record IsLawful (store : Pages) : Type 0 where
  pub few : store.pages ≤ MAX_PAGES
  pub enough : store.frames ≤ MAX_FRAMES_PER_PAGE * store.pages
  pub used : used_of store ≤ store.frames
  pub room : held_of store + store.pages ≤ store.frames
  pub spaces : (space : Space) → Stands store space → IsSpace store.pages store.frames space
  pub agree : (one other : Space) → Stands store one → Stands store other → Agree one other

-- a store that was just made: all bytes are 0 and nothing is saved
pub record IsMade (pages slots frames : ℕ) (store : Pages) : Type 0 where
  pub pages_are : store.pages ≡ pages
  pub frames_are : store.frames ≡ frames
  pub zeros : store.live.bytes ≡ replicate (PAGE * pages) 0
  pub empty : store.slots ≡ replicate slots None
  pub used : used_of store ≡ pages
