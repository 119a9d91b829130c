-- What a contract sees of something that can be saved and restored: its live state, and its checkpoints.
use Rattle.std.specs.Prelude.{◌≡◌, ◌⊎◌, ℕ, ◌-◌, ◌*◌, ◌<◌, ◌≤◌, List, [], ◌∷◌, length, map, sum, take, drop, slice_get, Option, IfSome}

-- a checkpoint: the state that was saved, and how many pages were written since the checkpoint before it
pub record Checkpoint (State : Type 0) : Type 0 where
  pub state : State
  pub pages : ℕ

-- what can be saved and restored
pub record Slots (State : Type 0) : Type 0 where
  -- the live state
  pub live : State
  -- the checkpoints that stand, the newest first
  pub saved : List (Checkpoint State)
  -- how many of them are newer than the one on which the live state stands
  pub newer : ℕ
  -- how many pages were written since that one
  pub written : ℕ
  -- how many checkpoints can stand
  pub count : ℕ
  -- how many pages a state has
  pub pages : ℕ
  -- how many pages can be in use
  pub frames : ℕ

module _ {X : Type 0} where
  -- the last of what is listed with the newest first
  abbrev pub oldest_of : List X → Option X
  oldest_of list = slice_get list (length list - 1)

module _ {State : Type 0} where
  -- how many pages were written since the checkpoint before, for each checkpoint
  abbrev pub page_numbers : List (Checkpoint State) → List ℕ
  page_numbers saved = map (λ one. one.pages) saved

  -- how many were written since the checkpoint on which the live state stands, and these numbers
  abbrev pub all_numbers : Slots State → List ℕ
  all_numbers slots = slots.written ∷ page_numbers slots.saved

  -- how many pages are in use: the sum of all these numbers
  abbrev pub used_pages : Slots State → ℕ
  used_pages slots = sum (all_numbers slots)

  -- what always holds
  pub record AreSound (slots : Slots State) : Type 0 where
    pub few : length slots.saved ≤ slots.count
    -- before the oldest checkpoint all pages were written
    pub oldest : IfSome (oldest_of slots.saved) (λ one. one.pages ≡ slots.pages)
    -- the live state stands on a checkpoint; or none stands, and all its pages were written
    pub stands : (slots.newer < length slots.saved) ⊎ ((slots.saved ≡ []) × (slots.newer ≡ 0) × (slots.written ≡ slots.pages))
    -- two states can be in use
    pub frames : 2 * slots.pages ≤ slots.frames

  -- the live state is the newest checkpoint, and stands on it
  abbrev pub with_newest : Slots State → Slots State
  with_newest slots = record slots { saved = record { state = slots.live; pages = slots.written } ∷ slots.saved; newer = 0; written = 0 }

  -- the live state is that of the checkpoint at an index, and stands on it
  abbrev pub restored : ℕ → Checkpoint State → Slots State → Slots State
  restored index one slots = record slots { live = one.state; newer = index; written = 0 }

  -- so many checkpoints, the newest ones, are gone
  abbrev pub without_newer : ℕ → Slots State → Slots State
  without_newer count slots = record slots { saved = drop count slots.saved; newer = slots.newer - count }

  -- checkpoints of which the oldest has all pages as its number
  abbrev pub with_whole_oldest : ℕ → List (Checkpoint State) → List (Checkpoint State)
  with_whole_oldest pages [] = []
  with_whole_oldest pages (one ∷ []) = record one { pages = pages } ∷ []
  with_whole_oldest pages (one ∷ next ∷ older) = one ∷ with_whole_oldest pages (next ∷ older)

  -- with these checkpoints; where none stands all pages of the live state count as written
  abbrev pub with_saved : List (Checkpoint State) → Slots State → Slots State
  with_saved [] slots = record slots { saved = []; written = slots.pages }
  with_saved (newest ∷ older) slots = record slots { saved = newest ∷ older }

  -- the oldest checkpoint is gone
  abbrev pub without_oldest : Slots State → Slots State
  without_oldest slots = with_saved (with_whole_oldest slots.pages (take (length slots.saved - 1) slots.saved)) slots
