use Rattle.trunk_wire.proofs.Terms.{List, length, ℕ, ◌++◌, ◌≡◌, ◌≤◌, Writes}
use Rattle.trunk_wire.proofs.writing.write_all.Given as goal

abbrev pub invariant-give : goal.invariant-give
invariant-give g l = record {
  front : List ℕ;
  whole : front ++ l.rest ≡ l.bytes;
  written : Writes (g.K.Sink.told l.fn.sink) (g.K.Sink.told l.sink) l.fn.wrote l.wrote front;
  fixed : g.K.Sink.fixed l.sink ≡ g.K.Sink.fixed l.fn.sink;
  later : g.K.Sink.faults l.fn.sink ≤ g.K.Sink.faults l.sink;
}

abbrev pub decreases-give : goal.decreases-give
decreases-give g l = length l.rest
