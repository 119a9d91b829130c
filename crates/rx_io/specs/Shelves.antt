-- Files that are kept as a list of names and bytes.
use Rattle.std.specs.Prelude.{◌≡◌, ◌≢◌, ℕ, zero, suc, List, [], ◌∷◌, Some, None, if◌then◌else◌, Result, OnErr, Vec, String, string_bytes}
use Rattle.rx_io.specs.Terms.{Global, bytes_eq, IoFault}
use Rattle.rx_io.specs.Named.{Contents}

-- a name and its bytes
abbrev pub File : Type 0
File = String Global × Vec ℕ Global

-- the bytes of the first file of a name
abbrev pub found : List File → Contents
found [] name = None
found (file ∷ files) name = if bytes_eq (string_bytes file.0) name then Some file.1.items else found files name

-- the first file of a name stands at i
abbrev pub IsPlace : List File → List ℕ → ℕ → Type 0
IsPlace [] name i = ⊥
IsPlace (file ∷ files) name zero = string_bytes file.0 ≡ name
IsPlace (file ∷ files) name (suc i) = (string_bytes file.0 ≢ name) × IsPlace files name i

-- each name has what it had, where a call failed
abbrev pub LeavesNone : Contents → Contents → Result (Unit {0}) IoFault → Type 0
LeavesNone old new result = OnErr result ((name : List ℕ) → new name ≡ old name)
