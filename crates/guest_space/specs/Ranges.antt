-- Addresses of a span.
use Rattle.std.specs.Prelude.{◌≡◌, ℕ, ◌+◌, ◌/◌, ◌%◌, ◌<◌, Bool, true, false, ◌&&◌, ◌||◌, nat_le, nat_lt, ◌==◌, List, [], ◌∷◌}
use Rattle.guest_space.specs.Spans.{Span}

-- the span has the address and permits this
abbrev pub has_address : ℕ → ℕ → Span → Bool
has_address flag at span = (span.flags / flag % 2 == 1) && nat_le span.start at && nat_lt at span.end

-- the span permits this and has so many addresses from one on
abbrev pub has_range : ℕ → ℕ → ℕ → Span → Bool
has_range flag at size span = nat_le (at + size) span.end && nat_le span.start at && (span.flags / flag % 2 == 1)

-- a span has the address and permits this
abbrev pub some_has : ℕ → ℕ → List Span → Bool
some_has flag at [] = false
some_has flag at (span ∷ spans) = has_address flag at span || some_has flag at spans

-- each of so many addresses from one on is in a span that permits this
abbrev pub AreHeld : ℕ → List Span → ℕ → ℕ → Type 0
AreHeld flag spans at size = (k : ℕ) → k < size → some_has flag (at + k) spans ≡ true

-- the span may be executed and not written, and begins at a multiple of 4
pub record IsCode (span : Span) : Type 0 where
  pub executed : span.flags / 1 % 2 ≡ 1
  pub unwritten : span.flags / 2 % 2 ≡ 0
  pub whole : span.start % 4 ≡ 0
