-- What came from a connection, among what was taken of a link.
use Rattle.std.specs.Prelude.{ℕ, ◌==◌, List, [], flat_map, if◌then◌else◌}
use Rattle.links.specs.Terms.{LinkEvent}
use Rattle.links.specs.declared.journal.LinkEvent.TheVariants as event

-- the bytes of a connection's pieces, among events
abbrev pub bytes_from : ℕ → LinkEvent → List ℕ
bytes_from conn (event.Piece from bytes) = if from == conn then bytes else []
bytes_from conn _ = []

abbrev pub received_from : ℕ → List LinkEvent → List ℕ
received_from conn events = flat_map (bytes_from conn) events
