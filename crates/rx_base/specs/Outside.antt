-- What an object outside tells of its content. It tells it optionally: the forms in memory do, the adapters over
-- real things don't, and of what isn't told nothing is claimed.
use Rattle.std.specs.Prelude.{◌≡◌, ℕ, min, List, [], length, ◌++◌, Option, Some, None, IfSome}

-- the bytes taken from a source so far, and those that are left
pub record Stream : Type 0 where
  pub taken : List ℕ
  pub left : List ℕ

-- these bytes were taken from the front of what was left
abbrev pub Took : Option Stream → Option Stream → List ℕ → Type 0
Took None new bytes = Unit {0}
Took (Some old) None bytes = ⊥
Took (Some old) (Some new) bytes = (new.taken ≡ old.taken ++ bytes) × (old.left ≡ bytes ++ new.left)

-- no byte is left
abbrev pub IsDrained : Option Stream → Type 0
IsDrained source = IfSome source (λ stream. stream.left ≡ [])

-- none of these bytes was taken yet
abbrev pub fresh : List ℕ → Stream
fresh bytes = record { taken = []; left = bytes }

-- how many bytes a call gives: at most so many per call, as many as the buffer has room for, and as are left
abbrev pub piece_len : ℕ → ℕ → Stream → ℕ
piece_len most room stream = min (min most room) (length stream.left)
