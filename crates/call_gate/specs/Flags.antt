-- Flags that are kept as bits of words.
use Rattle.std.specs.Prelude.{ℕ, ◌*◌, ◌/◌, ◌%◌, ◌==◌, Bool, List, map, length, get_or}
use Rattle.std.specs.Int.{bit_at}
use Rattle.std.specs.List.{range_with_len}

-- flag i: bit i % 64 of word i / 64
abbrev pub flag_at : List ℕ → ℕ → Bool
flag_at words i = bit_at (get_or words (i / 64) 0) (i % 64) == 1

-- the flags of words, 64 of each
unfoldable pub flags_of : List ℕ → List Bool
flags_of words = map (flag_at words) (range_with_len 0 (64 * length words))
