-- What a write to the live space of a store leaves.
use Rattle.std.specs.Prelude.{◌≡◌, ℕ, zero, suc, ◌+◌, ◌-◌, ◌*◌, ◌/◌, ◌%◌, ◌<◌, ◌≤◌, Bool, false, ◌&&◌, nat_le, nat_lt, if◌then◌else◌, List, ◌++◌, length, take, drop, slice_index, MatchBool}
use Rattle.cow_pages.specs.Pages.{Pages, has, saved_numbers, used_of}
use Rattle.cow_pages.specs.declared.frame_copy.TheConstants.{PAGE}

-- a list with other elements from a place on
abbrev pub put_at : ℕ → List ℕ → List ℕ → List ℕ
put_at at bytes xs = take at xs ++ bytes ++ drop (at + length bytes) xs

-- whether the number of a page of the live space is in a saved slot
abbrev pub is_shared : Pages → ℕ → Bool
is_shared store page = has (slice_index store.live.numbers page) (saved_numbers store.slots)

-- a number of a frame that is neither in the live space nor in a saved slot
abbrev pub IsFree : Pages → ℕ → Type 0
IsFree store n = (n < store.frames) × (has n (store.live.numbers ++ saved_numbers store.slots) ≡ false)

-- the number of a page: a free one where the page had to be copied, and else the one that it had
abbrev pub NumberAfter : Bool → Pages → ℕ → ℕ → Type 0
NumberAfter copied old page n = MatchBool copied (IsFree old n) (n ≡ slice_index old.live.numbers page)

-- whether a write of so many bytes from an address on reaches a page
abbrev pub reaches : ℕ → ℕ → ℕ → Bool
reaches at count page = nat_lt 0 count && (nat_le (at / PAGE) page && nat_le page ((at + count - 1) / PAGE))

-- how many of the first so many pages a write reaches and a slot has
abbrev pub copied_pages : Pages → ℕ → ℕ → ℕ → ℕ
copied_pages store at count zero = 0
copied_pages store at count (suc page) = copied_pages store at count page + (if reaches at count page && is_shared store page then 1 else 0)

-- these bytes were written from an address on: nothing else of the live space changed and no slot did,
-- each page that a slot has and that was written has a free number, and every other page has the number that it had
pub record Writes (old new : Pages) (at : ℕ) (bytes : List ℕ) : Type 0 where
  pub pages : new.pages ≡ old.pages
  pub frames : new.frames ≡ old.frames
  pub slots : new.slots ≡ old.slots
  pub written : new.live.bytes ≡ put_at at bytes old.live.bytes
  pub numbers : (page : ℕ) → page < old.pages → NumberAfter (reaches at (length bytes) page && is_shared old page) old page (slice_index new.live.numbers page)
  pub used : used_of new ≡ used_of old + copied_pages old at (length bytes) old.pages

-- a page of the live space was given a frame of its own, with the bytes that it had
pub record Owns (old new : Pages) (page : ℕ) : Type 0 where
  pub pages : new.pages ≡ old.pages
  pub frames : new.frames ≡ old.frames
  pub slots : new.slots ≡ old.slots
  pub bytes : new.live.bytes ≡ old.live.bytes
  pub others : (place : ℕ) → place < old.pages → (place ≡ page → ⊥) → slice_index new.live.numbers place ≡ slice_index old.live.numbers place
  pub number : NumberAfter (is_shared old page) old page (slice_index new.live.numbers page)
  pub used : used_of new ≡ used_of old + (if is_shared old page then 1 else 0)

-- so many bytes of the live space from an address on lie within one page, and stand from this place on among the bytes of all frames
pub record StandsAt (store : Pages) (at size place : ℕ) : Type 0 where
  pub inside : at < PAGE * store.pages
  pub within : at % PAGE + size ≤ PAGE
  pub place_is : place ≡ PAGE * slice_index store.live.numbers (at / PAGE) + at % PAGE
