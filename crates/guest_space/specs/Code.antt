-- The table of a guest's code.
use Rattle.std.specs.Prelude.{◌≡◌, ℕ, ◌+◌, ◌-◌, ◌*◌, ◌%◌, ◌<◌, false, List, length, take, drop, Option, IfSome}
use Rattle.guest_space.specs.Terms.{All, Pages, Space, IsTableOf, Table}
use Rattle.guest_space.specs.Spans.{Span}
use Rattle.guest_space.specs.Ranges.{AreHeld, some_has}

-- how many words a table has entries of
abbrev pub word_count : Table → ℕ
word_count code = length code.entries - 1

-- what stands where a table's words are, in the bytes of a window from a base on
abbrev pub code_bytes : ℕ → Table → List ℕ → List ℕ
code_bytes base code bytes = take (4 * word_count code) (drop (code.start - base) bytes)

-- where something is saved, the same stands there as in these bytes of the window
abbrev pub KeepsCode : ℕ → Table → List ℕ → Option Space → Type 0
KeepsCode base code bytes slot = IfSome slot (λ space. code_bytes base code space.bytes ≡ code_bytes base code bytes)

-- a table is of the words that stand in the live space and in each saved slot; these may be executed, and none of their bytes written
pub record HasCode (base : ℕ) (spans : List Span) (store : Pages) (code : Table) : Type 0 where
  pub table : IsTableOf code.start (code_bytes base code store.live.bytes) code
  pub whole : code.start % 4 ≡ 0
  pub fetched : AreHeld 1 spans code.start (4 * word_count code)
  pub fixed : (k : ℕ) → k < 4 * word_count code → some_has 2 (code.start + k) spans ≡ false
  pub saved : All (KeepsCode base code store.live.bytes) store.slots
