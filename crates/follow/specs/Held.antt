-- What clients hold of what a run sent.
use Rattle.std.specs.Prelude.{ℕ, ◌-◌, List, [], ◌∷◌, ◌++◌, length, take, if◌then◌else◌, ◌==◌}
use Rattle.follow.specs.Terms.{Send, sent_to}

-- how many bytes a connection has: 0 without a line
abbrev pub count_of : List (ℕ × ℕ) → ℕ → ℕ
count_of [] conn = 0
count_of (line ∷ counts) conn = if line.0 == conn then line.1 else count_of counts conn

-- of some sends, behind others, what lies within the counts: each keeps the number of items with which it was made
abbrev pub held_behind : List (ℕ × ℕ) → List Send → List Send → List Send
held_behind counts before [] = []
held_behind counts before (send ∷ sends) =
    record send { bytes = take (count_of counts send.conn - length (sent_to send.conn before)) send.bytes } ∷ held_behind counts (before ++ send ∷ []) sends

-- of all sends of a run
abbrev pub held : List (ℕ × ℕ) → List Send → List Send
held counts sends = held_behind counts [] sends
