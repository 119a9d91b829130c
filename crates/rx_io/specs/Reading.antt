-- What is read of a reader whose bytes are known.
use Rattle.std.specs.Prelude.{◌≡◌, ℕ, ◌<◌, List, length, Option, IfSome, Result, Ok, Err, Vec}
use Rattle.rx_io.specs.Terms.{Global, LoadFault, Failed, Memory, TooLarge}

-- all bytes, or there are more than the limit
abbrev pub ReadsWhole : Option (List ℕ) → ℕ → Result (Vec ℕ Global) LoadFault → Type 0
ReadsWhole known limit (Ok bytes) = IfSome known (λ all. bytes.items ≡ all)
ReadsWhole known limit (Err TooLarge) = IfSome known (λ all. limit < length all)
ReadsWhole known limit (Err Failed) = Unit {0}
ReadsWhole known limit (Err Memory) = Unit {0}
