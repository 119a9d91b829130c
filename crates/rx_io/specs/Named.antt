-- What the calls on named files do to what the files tell.
use Rattle.std.specs.Prelude.{◌≡◌, ◌≢◌, ◌⊎◌, ℕ, ◌<◌, ◌≤◌, List, [], ◌++◌, length, Option, Some, None, Result, Ok, Err, IsSomeAnd, unwrap_or, Vec}
use Rattle.rx_io.specs.Terms.{Global, IoFault, LoadFault, Failed, Memory, TooLarge}

-- the bytes of each name that is there
abbrev pub Contents : Type 0
Contents = List ℕ → Option (List ℕ)

-- a file is read whole, or is longer than the limit
abbrev pub Loads : Option Contents → List ℕ → ℕ → Result (Vec ℕ Global) LoadFault → Type 0
Loads None name limit result = Unit {0}
Loads (Some files) name limit (Ok bytes) = (files name ≡ Some bytes.items) × (length bytes.items ≤ limit)
Loads (Some files) name limit (Err TooLarge) = IsSomeAnd (files name) (λ bytes. limit < length bytes)
Loads (Some files) name limit (Err Failed) = Unit {0}
Loads (Some files) name limit (Err Memory) = Unit {0}

-- one name has these bytes now, and each other has what it had
pub record Holds (old new : Contents) (name : List ℕ) (bytes : Option (List ℕ)) : Type 0 where
  pub here : new name ≡ bytes
  pub others : (other : List ℕ) → other ≢ name → new other ≡ old other

-- a file was started; after a fault it is as before, or empty
abbrev pub Starts : Option Contents → Option Contents → List ℕ → Result (Unit {0}) IoFault → Type 0
Starts None new name result = Unit {0}
Starts (Some old) None name result = ⊥
Starts (Some old) (Some new) name (Ok done) = Holds old new name (Some [])
Starts (Some old) (Some new) name (Err fault) = Holds old new name (old name) ⊎ Holds old new name (Some [])

-- these bytes stand behind those that were there
abbrev pub AddsFront : Contents → Contents → List ℕ → List ℕ → Type 0
AddsFront old new name bytes = Holds old new name (Some (unwrap_or (old name) [] ++ bytes))

-- bytes were added; after a fault some first ones of them, or none
abbrev pub Adds : Option Contents → Option Contents → List ℕ → List ℕ → Result (Unit {0}) IoFault → Type 0
Adds None new name bytes result = Unit {0}
Adds (Some old) None name bytes result = ⊥
Adds (Some old) (Some new) name bytes (Ok done) = AddsFront old new name bytes
Adds (Some old) (Some new) name bytes (Err fault) =
    Holds old new name (old name) ⊎ ((front : List ℕ) × (rest : List ℕ) × (bytes ≡ front ++ rest) × AddsFront old new name front)
