-- How many frames are in use is the sum of the pages that were written from slot to slot.
use Rattle.std.proofs.Common.{sum}
use Rattle.ckpt_ring.proofs.Terms.{All, Bool, Contains, IfSome, IsSome, List, None, Option, Some, [], ap, arith, false, get_or, inl, inr, length, not, refl, replicate, slice_get, suc, sym, true, ℕ, ◌++◌, ◌+◌, ◌<◌, ◌==◌, ◌||◌, ◌∙◌, ◌∷◌, ◌≡◌, cases_Bool, eqb-true, false≢true, or_cases, true≢false, get_or-replicate, length-replicate, All-head, All-tail, Contains-get_or, sum_by-cons, get_or_from_slice_get, has-append, has-get_or, IsOnce, IsLawful, Pages, Space, different, has, saved_numbers, slot_at, used_of, AreFresh, IsFresh, IsLine, Line, base_of, checkpoints_in, count_true, frames_in, frames_of, frames_of_all, slots_of, written_pages, written_since, page_numbers, used_pages}
use Rattle.ckpt_ring.proofs.Frames.{whole_slot, not_in_slots, in_slots}
use Rattle.ckpt_ring.proofs.Same.{at_place}
use Rattle.ckpt_ring.proofs.Flags.{length-differ, differ-at}
use Rattle.ckpt_ring.proofs.Different.{different_alike, different_flags}

-- a number that a saved slot has is in one of them
slot_with : (n : ℕ) (slots : List (Option Space)) → has n (saved_numbers slots) ≡ true → (slot : ℕ) × (has n (frames_of (get_or slots slot None)) ≡ true)
slot_with n [] is = absurd (false≢true is)
slot_with n (None ∷ slots) is = let found = slot_with n slots is in (suc found.0, found.1)
slot_with n (Some space ∷ slots) is =
    elim (or_cases (has n space.numbers) (has n (saved_numbers slots)) (sym (has-append n space.numbers (saved_numbers slots)) ∙ is)) [
      | inl here ↦ (0, here)
      | inr later ↦ (let found = slot_with n slots later in (suc found.0, found.1))
    ]

has_frames : (n : ℕ) (o : Option Space) → has n (frames_of o) ≡ true → IsSome o
has_frames n None is = absurd (false≢true is)
has_frames n (Some space) is = refl

-- the frames of the line are those of all saved slots
line_frames : (store : Pages) (line : Line) (n : ℕ) → IsLine store line → has n (saved_numbers store.slots) ≡ has n (frames_of_all store line.order)
line_frames store line n so =
    elim (cases_Bool (has n (saved_numbers store.slots))) [
      | inl is ↦
          (let found = slot_with n store.slots is in
          is ∙ sym (in_slots store line.order n found.0 (so.all_saved found.0 (has_frames n (slot_at store found.0) found.1)) found.1))
      | inr none ↦ none ∙ sym (not_in_slots n store line.order none)
    ]

-- a slot that has a frame for each page, among others
abbrev IsAmong : Pages → List ℕ → ℕ → Type 0
IsAmong store slots slot = (length (frames_in store slot) ≡ store.pages) × Contains slots slot

same_frame : (a b : ℕ) → not (a == b) ≡ false → a ≡ b
same_frame a b e = eqb-true a b (not_false (a == b) e) where
  not_false : (b : Bool) → not b ≡ false → b ≡ true
  not_false true e = refl
  not_false false e = absurd (true≢false e)

-- what slots hold, and one space more: the pages that were written
module _ (store : Pages) (slots numbers : List ℕ) (long : length numbers ≡ store.pages) (once : IsOnce numbers) where
  flags_long : (previous : Option ℕ) → IfSome previous (IsAmong store slots) → length (written_since store previous numbers) ≡ length numbers
  flags_long None among = length-replicate store.pages true ∙ sym long
  flags_long (Some slot) among = length-differ (frames_in store slot) numbers (among.0 ∙ sym long) ∙ among.0 ∙ sym long

  unwritten : (previous : Option ℕ) (page : ℕ) → IfSome previous (IsAmong store slots) → page < store.pages → slice_get (written_since store previous numbers) page ≡ Some false
      → has (get_or numbers page 0) (frames_of_all store slots) ≡ true
  unwritten None page among less is = absurd (true≢false (sym (get_or-replicate store.pages page true true less) ∙ get_or_from_slice_get (replicate store.pages true) page false true is))
  unwritten (Some slot) page among less is =
      let frames : List ℕ = frames_in store slot in
      let near : page < length frames = omega (arith, among.0) in
      let flag : Some (not (get_or frames page 0 == get_or numbers page 0)) ≡ Some false = sym (differ-at frames numbers page near (omega (arith, long))) ∙ is in
      let same : get_or frames page 0 ≡ get_or numbers page 0 = same_frame (get_or frames page 0) (get_or numbers page 0) cc in
      in_slots store slots (get_or numbers page 0) slot among.1 (ap (λ n. has n frames) (sym same) ∙ has-get_or frames page near)

  each_flag : (previous : Option ℕ) → IfSome previous (IsAmong store slots) → IsFresh store previous slots numbers → (page : ℕ) (flag : Bool) → page < length numbers → slice_get (written_since store previous numbers) page ≡ Some flag
      → has (get_or numbers page 0) (frames_of_all store slots) ≡ not flag
  each_flag previous among fresh page true less is = fresh page (omega (arith, long)) is
  each_flag previous among fresh page false less is = unwritten previous page among (omega (arith, long)) is

  one_more : (previous : Option ℕ) → IfSome previous (IsAmong store slots) → IsFresh store previous slots numbers → different (numbers ++ frames_of_all store slots) ≡ count_true (written_since store previous numbers) + different (frames_of_all store slots)
  one_more previous among fresh = different_flags numbers (frames_of_all store slots) (written_since store previous numbers) (flags_long previous among) once (each_flag previous among fresh)

-- the slot at a place has a frame for each page
among_at : (store : Pages) (slots : List ℕ) (place : ℕ) → IsLawful store → All (λ slot. IsSome (slot_at store slot)) slots → IfSome (slice_get slots place) (IsAmong store slots)
among_at store slots place lawful each = at_place (IsAmong store slots) slots place (λ k d less. ((whole_slot store (get_or slots k d) lawful (each k d less)).0, Contains-get_or slots k d less))

once_live : (store : Pages) → IsLawful store → IsOnce store.live.numbers
once_live store lawful = λ k j lk lj same. (lawful.agree store.live store.live (inl refl) (inl refl) k j lk lj same).0

-- there is a flag for each page
pub line_flags : (store : Pages) (line : Line) → IsLawful store → IsLine store line → length (written_pages store line) ≡ store.pages
line_flags store line lawful so =
    let long : length store.live.numbers ≡ store.pages = (lawful.spaces store.live (inl refl)).numbers in
    flags_long store line.order store.live.numbers long (once_live store lawful) (base_of line) (among_at store line.order line.newer lawful (λ k d less. (so.each_saved k d less).1)) ∙ long

module _ {State : Type 0} (state_in : ℕ → State) where
  older_used : (store : Pages) (order : List ℕ) → IsLawful store → All (λ slot. IsSome (slot_at store slot)) order → AreFresh store order → different (frames_of_all store order) ≡ sum (page_numbers (checkpoints_in state_in store order))
  older_used store [] lawful each fresh = refl
  older_used store (slot ∷ older) lawful each fresh =
      let kept : All (λ n. IsSome (slot_at store n)) older = All-tail (λ n. IsSome (slot_at store n)) slot older each in
      let whole = whole_slot store slot lawful (All-head (λ n. IsSome (slot_at store n)) slot older each) in
      let rest : List ℕ = page_numbers (checkpoints_in state_in store older) in
      let total = sum_by-cons (λ x. x) (count_true (written_since store (slice_get older 0) (frames_in store slot))) rest in
      one_more store older (frames_in store slot) whole.0 whole.1 (slice_get older 0) (among_at store older 0 lawful kept) fresh.0
      ∙ ap (λ n. count_true (written_since store (slice_get older 0) (frames_in store slot)) + n) (older_used store older lawful kept fresh.1) ∙ sym total

  -- the frames in use are the pages that were written from slot to slot, and those of the live space since its slot
  pub line_used : (live : State) (store : Pages) (line : Line) → IsLawful store → IsLine store line → used_of store ≡ used_pages (slots_of state_in live store line)
  line_used live store line lawful so =
      let frames : List ℕ = frames_of_all store line.order in
      let numbers : List ℕ = page_numbers (checkpoints_in state_in store line.order) in
      let each : All (λ slot. IsSome (slot_at store slot)) line.order = λ k d less. (so.each_saved k d less).1 in
      different_alike (store.live.numbers ++ saved_numbers store.slots) (store.live.numbers ++ frames) (λ n.
      has-append n store.live.numbers (saved_numbers store.slots) ∙ ap (λ b. has n store.live.numbers || b) (line_frames store line n so) ∙ sym (has-append n store.live.numbers frames))
      ∙ one_more store line.order store.live.numbers (lawful.spaces store.live (inl refl)).numbers (once_live store lawful) (base_of line) (among_at store line.order line.newer lawful each) so.live
      ∙ ap (λ n. count_true (written_pages store line) + n) (older_used store line.order lawful each so.fresh)
      ∙ sym (sum_by-cons (λ x. x) (count_true (written_pages store line)) numbers)
