-- What is sent to connections, and what each of them gets of it.
use Rattle.std.specs.Prelude.{ℕ, List, [], flat_map, if◌then◌else◌, ◌==◌}

-- bytes for a connection, and the number of items that were taken, or received, when they were sent or passed
pub record Send : Type 0 where
  pub conn : ℕ
  pub bytes : List ℕ
  pub taken : ℕ

-- the bytes that sends give to a connection, in their order
abbrev pub sent_to : ℕ → List Send → List ℕ
sent_to conn sends = flat_map (λ (send : Send). if send.conn == conn then send.bytes else []) sends
