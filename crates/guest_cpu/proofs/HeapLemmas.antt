-- A block of the heap may be read and written.
use Rattle.guest_space.specs.Ranges.{has_address, some_has}
use Rattle.guest_cpu.proofs.Terms.{Bool, Contains, List, [], arith, eqb, false, leb, ltb, refl, suc, true, zero, ℕ, ◌%◌, ◌&&◌, ◌+◌, ◌/◌, ◌<◌, ◌^◌, ◌||◌, ◌∷◌, ◌≡◌, ◌≤◌, permitted, is_permitted, GuestPages, IsLawfulSpace, Span, blank_span, flat}

-- an address of a span that may be touched so
one_has : (flag : ℕ) (spans : List Span) (start end at : ℕ) → eqb (6 / flag % 2) 1 ≡ true → Contains spans (blank_span start end) → start ≤ at → at < end → some_has flag at spans ≡ true
one_has flag [] start end at opens (k, within, found) low high = absurd (omega (arith, within))
one_has flag (span ∷ spans) start end at opens (zero, within, found) low high =
    let here : has_address flag at span ≡ true = rw found (of_bounds (eqb (6 / flag % 2) 1) (leb start at) (ltb at end) opens (grind arith) (grind arith)) in
    rw here refl
  where
    of_bounds : (a b c : Bool) → a ≡ true → b ≡ true → c ≡ true → (a && b && c) ≡ true
    of_bounds a b c one other last = rw (one, other, last) refl
one_has flag (span ∷ spans) start end at opens (suc k, within, found) low high =
    rw (one_has flag spans start end at opens (k, omega (arith, within), found) low high) (or_true (has_address flag at span))
  where
    or_true : (b : Bool) → (b || true) ≡ true
    or_true true = refl
    or_true false = refl

-- so many bytes between the ends of the heap may be touched so
pub heap_permits : (flag : ℕ) (space : GuestPages) (start end at size : ℕ) → eqb (6 / flag % 2) 1 ≡ true → IsLawfulSpace space → Contains space.spans (blank_span start end) → start ≤ at → at + size ≤ end → end ≤ 2 ^ 32 → permitted flag (flat space) at size ≡ true
heap_permits flag space start end at size opens sound there low high near =
    is_permitted flag space at size sound (grind arith) (λ k small. one_has flag space.spans start end (at + k) opens there (grind arith) (grind arith))
