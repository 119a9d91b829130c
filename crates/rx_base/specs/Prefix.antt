-- The front of a list, the whole list and the empty one included.
use Rattle.std.specs.Prelude.{◌≡◌, List, ◌++◌}

-- the first list begins the second
abbrev pub Prefix : {X : Type 0} → List X → List X → Type 0
Prefix {X} front whole = (rest : List X) × (front ++ rest ≡ whole)
