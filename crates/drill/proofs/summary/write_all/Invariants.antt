use Rattle.drill.proofs.Terms.{List, length, ℕ, ◌++◌, ◌≡◌, ◌≤◌, Appends}
use Rattle.drill.proofs.summary.write_all.Given as goal

abbrev pub invariant-give : goal.invariant-give
invariant-give g l = record {
  front : List ℕ;
  whole : front ++ l.rest ≡ l.bytes;
  written : Appends (g.K.Sink.told l.fn.output) (g.K.Sink.told l.output) front;
  fixed : g.K.Sink.fixed l.output ≡ g.K.Sink.fixed l.fn.output;
  later : g.K.Sink.faults l.fn.output ≤ g.K.Sink.faults l.output;
}

abbrev pub decreases-give : goal.decreases-give
decreases-give g l = length l.rest
