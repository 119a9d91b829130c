-- The example guests: their names, the text of the least of them, and the text of guest keys.
use Rattle.std.specs.Prelude.{ℕ, Bool, List, [], ◌∷◌, ◌++◌, codes, nat_eq}
use Rattle.std.specs.List.{starts_with}
use Rattle.example_guests.specs.declared.keys.TheConstants.{SOURCE}

-- the names of the guests
abbrev pub guest_names : List (List ℕ)
guest_names =
    codes "three" ∷ codes "echo" ∷ codes "counter" ∷ codes "divide" ∷ codes "null" ∷ codes "overflow" ∷ codes "unset"
    ∷ codes "twice" ∷ codes "stale" ∷ codes "tell_free" ∷ codes "tell_over" ∷ codes "pair" ∷ codes "late" ∷ codes "dirty" ∷ codes "keys"
    ∷ codes "grow" ∷ codes "stale_grow" ∷ []

-- a line of a text, which a line feed ends
abbrev pub line : List ℕ → List ℕ
line text = text ++ 10 ∷ []

-- a text begins with a comment of one line that has this name
abbrev pub is_headed : List ℕ → List ℕ → Bool
is_headed name text = starts_with nat_eq text (line (codes "# Guest " ++ name))

-- the text of guest three: it asks for an item without room for any of its bytes
abbrev pub three_text : List ℕ
three_text =
    line (codes "addi a7, x0, 1") ++ line (codes "addi a1, x0, 0") ++ line (codes "addi a0, x0, 0") ++ line (codes "ecall")

-- the text of guest keys, as its file has it
unfoldable pub keys_text : List ℕ
keys_text = SOURCE.now
