-- What a call of the allocator does in an environment.
use Rattle.std.specs.Prelude.{ℕ, Option, Some, None}
use Rattle.guest_cpu.specs.Terms.{Ask, Choice, Env, Ecall, BadFree, allocation, free, Effect, Fails, Allocate, Free, Grant, granted, site_of, Event}
use Rattle.guest_cpu.specs.Standing.{Standing, Turn, turn_of}

-- what a call does with the answer of the allocator; where there is none, it was bad
abbrev pub answered_with : Option Grant → (Option Choice → Effect) → Standing → Option (Turn Event)
answered_with None acts s = turn_of (Some Ecall) s None (Fails BadFree)
answered_with (Some grant) acts s = turn_of (Some Ecall) s (Some grant) (acts grant.chosen)

-- what an ask does in an environment
abbrev pub allocating : Env → Standing → Ask → Option (Turn Event)
allocating env s ask = answered_with (granted env s.guest.heap (site_of s.guest.machine) (Allocate ask)) (λ choice. allocation ask choice s.guest.machine) s

-- what a free of an address does in an environment
abbrev pub freeing : Env → Standing → ℕ → Option (Turn Event)
freeing env s at = answered_with (granted env s.guest.heap (site_of s.guest.machine) (Free at)) (λ choice. free s.guest.machine) s
