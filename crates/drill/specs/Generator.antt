-- The clients of a drill: what they send is drawn from a generator of numbers.
use Rattle.std.specs.Prelude.{ℕ, zero, suc, ◌+◌, ◌*◌, ◌/◌, ◌%◌, ◌^◌, ◌==◌, Bool, true, false, List, [], ◌∷◌, ◌++◌, codes, replicate, if◌then◌else◌}
use Rattle.links.specs.declared.journal.LinkEvent.TheVariants as event
use Rattle.drill.specs.Terms.{decimal, LinkEvent}

-- the state of the generator behind a draw, by the state before it
unfoldable pub next_state : ℕ → ℕ
next_state state = (1664525 * state + 1013904223) % 2 ^ 32

-- what is drawn: the upper half of the state that the draw makes
abbrev pub drawn : ℕ → ℕ
drawn state = next_state state / 65536

-- the states behind the first, the second and the third draw from this state
abbrev pub second_state : ℕ → ℕ
second_state state = next_state (next_state state)

abbrev pub third_state : ℕ → ℕ
third_state state = next_state (next_state (next_state state))

-- a set whose key has forty letters, at which the server fails
unfoldable pub failing_line : List ℕ
failing_line = codes "set " ++ (replicate 40 97 ++ codes " z") ++ 10 ∷ []

-- a set and a get of a key by its number
unfoldable pub set_line : ℕ → ℕ → List ℕ
set_line key value = codes "set k" ++ (decimal key ++ (codes " v" ++ (decimal value ++ 10 ∷ [])))

unfoldable pub get_line : ℕ → List ℕ
get_line key = codes "get k" ++ (decimal key ++ 10 ∷ [])

-- the line of a message, by two draws: the second says which one it is and its value, the first its key
abbrev pub line_of : ℕ → ℕ → List ℕ
line_of key kind = if kind % 64 == 0 then failing_line else (if kind % 2 == 1 then set_line (key % 50) (kind % 1000) else get_line (key % 50))

-- A message takes three draws: its connection is one of four, and the other two say its line.
abbrev pub message : ℕ → LinkEvent
message state = event.Piece (drawn state % 4) (line_of (drawn (next_state state)) (drawn (second_state state)))

-- so many messages, from a state on
unfoldable pub messages : ℕ → ℕ → List LinkEvent
messages zero state = []
messages (suc count) state = message state ∷ messages count (third_state state)

-- four connections open, and close
abbrev pub opening : List LinkEvent
opening = event.Opens 0 ∷ event.Opens 1 ∷ event.Opens 2 ∷ event.Opens 3 ∷ []

abbrev pub closing : List LinkEvent
closing = event.Closes 0 ∷ event.Closes 1 ∷ event.Closes 2 ∷ event.Closes 3 ∷ []

-- the events of a drill: four connections open, then so many messages come, then the connections close
unfoldable pub drill_events : ℕ → ℕ → List LinkEvent
drill_events seed count = opening ++ (messages count seed ++ closing)

-- whether an event says that none is left
abbrev pub is_end : LinkEvent → Bool
is_end event.Ends = true
is_end _ = false
