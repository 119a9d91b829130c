use Rattle.trunk_text.proofs.Terms.{List, length, ℕ, ◌++◌, ◌≡◌, ◌≤◌, Appends}
use Rattle.trunk_text.proofs.streams.give_all.Given as goal

abbrev pub invariant-write : goal.invariant-write
invariant-write g l = record {
  front : List ℕ;
  whole : front ++ l.rest ≡ l.bytes;
  wrote : Appends (g.K.Sink.told l.fn.sink) (g.K.Sink.told l.sink) front;
  fixed : g.K.Sink.fixed l.sink ≡ g.K.Sink.fixed l.fn.sink;
  later : g.K.Sink.faults l.fn.sink ≤ g.K.Sink.faults l.sink;
}

abbrev pub decreases-write : goal.decreases-write
decreases-write g l = length l.rest
