-- Addresses that may be touched so without a walk over the spans.
use Rattle.std.specs.Prelude.{ℕ, ◌+◌, ◌^◌, ◌<◌, ◌≤◌, List}
use Rattle.guest_space.specs.Terms.{All}
use Rattle.guest_space.specs.declared.stretch.Stretch.{Stretch}
use Rattle.guest_space.specs.declared.stretch.Stretches.{Stretches}
use Rattle.guest_space.specs.Space.{Span}
use Rattle.guest_space.specs.Ranges.{AreHeld}

-- from each address of a stretch on, four bytes are in spans that permit this
pub record IsOpen (flag : ℕ) (spans : List Span) (stretch : Stretch) : Type 0 where
  pub below : stretch.start + stretch.count ≤ 2 ^ 32
  pub held : (at : ℕ) → stretch.start ≤ at → at < stretch.start + stretch.count → AreHeld flag spans at 4

-- an address is one of a stretch
abbrev pub IsIn : Stretch → ℕ → Type 0
IsIn stretch at = (stretch.start ≤ at) × (at < stretch.start + stretch.count)

-- the stretch of an instruction's word, and for each register as a base those of loads and of stores
pub record AreOpen (spans : List Span) (stretches : Stretches) : Type 0 where
  pub words : IsOpen 1 spans stretches.words
  pub loads : All (IsOpen 4 spans) stretches.loads
  pub stores : All (IsOpen 2 spans) stretches.stores
