-- What is said of saved slots stays where the store has in them what it had.
use Rattle.ckpt_ring.proofs.Terms.{All, IfSome, IsSome, List, None, Option, Some, [], ap, ap₂, arith, get_or, length, refl, replicate, set, slice_get, subst, suc, sym, true, zero, ℕ, ◌++◌, ◌<◌, ◌∙◌, ◌∷◌, ◌≡◌, ◌≢◌, get_or-set_other, get_or-set_same, All-head, All-tail, Pages, Space, has, slot_at, AreFresh, IsFresh, IsLine, Line, checkpoints_in, count_true, differ, frames_in, frames_of, frames_of_all, written_since, Checkpoint, Slots}

-- what holds of each of a list holds of the one at a place
pub at_place : {X : Type 0} (P : X → Type 0) (xs : List X) (place : ℕ) → All P xs → IfSome (slice_get xs place) P
at_place P [] place all = tt
at_place P (x ∷ xs) zero all = All-head P x xs all
at_place P (x ∷ xs) (suc place) all = at_place P xs place (All-tail P x xs all)

pub all_at : {X : Type 0} (P : X → Type 0) (xs : List X) (place : ℕ) (x : X) → All P xs → slice_get xs place ≡ Some x → P x
all_at P xs place x all there = subst (λ o. IfSome o P) there (at_place P xs place all)

-- a store has in a slot what another one had
abbrev pub Stays : Pages → Pages → ℕ → Type 0
Stays old new slot = slot_at new slot ≡ slot_at old slot

pub since-same : (old new : Pages) (previous : Option ℕ) (numbers : List ℕ) → new.pages ≡ old.pages → IfSome previous (Stays old new) → written_since new previous numbers ≡ written_since old previous numbers
since-same old new None numbers pages stays = ap (λ n. replicate n true) pages
since-same old new (Some slot) numbers pages stays = ap (λ o. differ (frames_of o) numbers) stays

frames_of_all-same : (old new : Pages) (slots : List ℕ) → All (Stays old new) slots → frames_of_all new slots ≡ frames_of_all old slots
frames_of_all-same old new [] stay = refl
frames_of_all-same old new (slot ∷ slots) stay =
    ap₂ (λ o xs. frames_of o ++ xs) (All-head (Stays old new) slot slots stay) (frames_of_all-same old new slots (All-tail (Stays old new) slot slots stay))

pub fresh-same : (old new : Pages) (previous : Option ℕ) (slots numbers : List ℕ) → new.pages ≡ old.pages → IfSome previous (Stays old new) → All (Stays old new) slots
    → IsFresh old previous slots numbers → IsFresh new previous slots numbers
fresh-same old new previous slots numbers pages stays stay fresh = λ page less written.
    ap (has (get_or numbers page 0)) (frames_of_all-same old new slots stay)
    ∙ fresh page (omega (arith, pages)) (sym (ap (λ xs. slice_get xs page) (since-same old new previous numbers pages stays)) ∙ written)

pub are_fresh-same : (old new : Pages) (order : List ℕ) → new.pages ≡ old.pages → All (Stays old new) order → AreFresh old order → AreFresh new order
are_fresh-same old new [] pages stay fresh = tt
are_fresh-same old new (slot ∷ older) pages stay fresh =
    let kept : All (Stays old new) older = All-tail (Stays old new) slot older stay in (
      subst (λ o. IsFresh new (slice_get older 0) older (frames_of o)) (sym (All-head (Stays old new) slot older stay))
          (fresh-same old new (slice_get older 0) older (frames_in old slot) pages (at_place (Stays old new) older 0 kept) kept fresh.0),
      are_fresh-same old new older pages kept fresh.1,
    )

module _ {State : Type 0} where
  pub saved-same : (state_in other_in : ℕ → State) (old new : Pages) (order : List ℕ) → new.pages ≡ old.pages → All (Stays old new) order → All (λ slot. other_in slot ≡ state_in slot) order
      → checkpoints_in other_in new order ≡ checkpoints_in state_in old order
  saved-same state_in other_in old new [] pages stay states = refl
  saved-same state_in other_in old new (slot ∷ older) pages stay states =
      let kept : All (Stays old new) older = All-tail (Stays old new) slot older stay in
      let flags : written_since new (slice_get older 0) (frames_in new slot) ≡ written_since old (slice_get older 0) (frames_in old slot) =
      ap (λ o. written_since new (slice_get older 0) (frames_of o)) (All-head (Stays old new) slot older stay)
      ∙ since-same old new (slice_get older 0) (frames_in old slot) pages (at_place (Stays old new) older 0 kept) in
      ap₂ (λ state bits. record { state = state; pages = count_true bits } ∷ checkpoints_in other_in new older) (All-head (λ n. other_in n ≡ state_in n) slot older states) flags
      ∙ ap (λ list. record { state = state_in slot; pages = count_true (written_since old (slice_get older 0) (frames_in old slot)) } ∷ list)
      (saved-same state_in other_in old new older pages kept (All-tail (λ n. other_in n ≡ state_in n) slot older states))

  pub length-checkpoints_in : (state_in : ℕ → State) (store : Pages) (order : List ℕ) → length (checkpoints_in state_in store order) ≡ length order
  length-checkpoints_in state_in store [] = refl
  length-checkpoints_in state_in store (slot ∷ older) = ap suc (length-checkpoints_in state_in store older)

  -- the checkpoint at a place is that of the slot there
  pub checkpoint_at : (state_in : ℕ → State) (store : Pages) (order : List ℕ) (index slot : ℕ) → slice_get order index ≡ Some slot
      → (pages : ℕ) × (slice_get (checkpoints_in state_in store order) index ≡ Some (record { state = state_in slot; pages = pages }))
  checkpoint_at state_in store [] index slot there = cc
  checkpoint_at state_in store (first ∷ older) zero slot there =
      let same : first ≡ slot = cc in
      (count_true (written_since store (slice_get older 0) (frames_in store first)), ap (λ n. Some (record { state = state_in n; pages = count_true (written_since store (slice_get older 0) (frames_in store first)) })) same)
  checkpoint_at state_in store (first ∷ older) (suc index) slot there = checkpoint_at state_in store older index slot there

  -- slots with other states, flags and slots of the store
  abbrev pub made_slots : State → List (Checkpoint State) → ℕ → ℕ → ℕ → ℕ → ℕ → Slots State
  made_slots live saved newer written count pages frames =
      record { live = live; saved = saved; newer = newer; written = written; count = count; pages = pages; frames = frames }

-- what holds of a slot of a line
pub saved_slot : (store : Pages) (line : Line) (place slot : ℕ) → IsLine store line → slice_get line.order place ≡ Some slot → (slot < length store.slots) × IsSome (slot_at store slot)
saved_slot store line place slot so there = all_at (λ n. (n < length store.slots) × IsSome (slot_at store n)) line.order place slot so.each_saved there

-- something else in a slot of a store
abbrev pub with_slot : Pages → ℕ → Option Space → Pages
with_slot store slot o = record store { slots = set store.slots slot o }

pub other_slot : (old : Pages) (slot other : ℕ) (o : Option Space) → other ≢ slot → slot_at (with_slot old slot o) other ≡ slot_at old other
other_slot old slot other o apart = get_or-set_other old.slots slot other o None apart

pub this_slot : (old : Pages) (slot : ℕ) (o : Option Space) → slot < length old.slots → slot_at (with_slot old slot o) slot ≡ o
this_slot old slot o less = get_or-set_same old.slots slot o None less

pub emptied : (o : Option Space) → o ≡ None → IsSome o → ⊥
emptied o e some = cc
