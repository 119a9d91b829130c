-- The frames of saved slots among those of all.
use Rattle.ckpt_ring.proofs.Terms.{Contains, IsSome, List, None, Option, Some, [], ap, arith, false, get_or, inr, length, refl, suc, sym, true, zero, ℕ, ◌||◌, ◌∙◌, ◌∷◌, ◌≡◌, or_from, or_parts, or_right, has-append, IsOnce, IsLawful, Pages, Space, has, saved_numbers, slot_at, frames_in, frames_of, frames_of_all}

-- a saved slot has a frame for each page, and none twice
pub whole_slot : (store : Pages) (slot : ℕ) → IsLawful store → IsSome (slot_at store slot) → (length (frames_in store slot) ≡ store.pages) × IsOnce (frames_in store slot)
whole_slot store slot lawful some = by (slot_at store slot) refl some where
  by : (o : Option Space) → slot_at store slot ≡ o → IsSome o → (length (frames_of o) ≡ store.pages) × IsOnce (frames_of o)
  by None is some = cc
  by (Some space) is some = ((lawful.spaces space (inr (slot, is))).numbers, λ k j lk lj same. (lawful.agree space space (inr (slot, is)) (inr (slot, is)) k j lk lj same).0)

-- a number that no saved slot has isn't that of one
pub not_in_slot : (n : ℕ) (slots : List (Option Space)) (slot : ℕ) → has n (saved_numbers slots) ≡ false → has n (frames_of (get_or slots slot None)) ≡ false
not_in_slot n [] slot none = refl
not_in_slot n (None ∷ slots) zero none = refl
not_in_slot n (None ∷ slots) (suc slot) none = not_in_slot n slots slot none
not_in_slot n (Some space ∷ slots) zero none = (or_parts (has n space.numbers) (has n (saved_numbers slots)) (sym (has-append n space.numbers (saved_numbers slots)) ∙ none)).0
not_in_slot n (Some space ∷ slots) (suc slot) none =
    not_in_slot n slots slot (or_parts (has n space.numbers) (has n (saved_numbers slots)) (sym (has-append n space.numbers (saved_numbers slots)) ∙ none)).1

pub not_in_slots : (n : ℕ) (store : Pages) (order : List ℕ) → has n (saved_numbers store.slots) ≡ false → has n (frames_of_all store order) ≡ false
not_in_slots n store [] none = refl
not_in_slots n store (slot ∷ older) none =
    has-append n (frames_in store slot) (frames_of_all store older) ∙ or_from (has n (frames_in store slot)) (has n (frames_of_all store older)) (not_in_slot n store.slots slot none) (not_in_slots n store older none)

-- a frame of one of the slots is among those of all
pub in_slots : (store : Pages) (slots : List ℕ) (n slot : ℕ) → Contains slots slot → has n (frames_in store slot) ≡ true → has n (frames_of_all store slots) ≡ true
in_slots store [] n slot (k, less, is) there = absurd (omega arith)
in_slots store (first ∷ slots) n slot (zero, less, is) there =
    has-append n (frames_in store first) (frames_of_all store slots) ∙ ap (λ b. b || has n (frames_of_all store slots)) (ap (λ s. has n (frames_in store s)) is ∙ there)
in_slots store (first ∷ slots) n slot (suc k, less, is) there =
    has-append n (frames_in store first) (frames_of_all store slots)
    ∙ or_right (has n (frames_in store first)) (has n (frames_of_all store slots)) (in_slots store slots n slot (k, omega arith, is) there)
