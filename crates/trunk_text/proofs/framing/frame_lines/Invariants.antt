use Rattle.trunk_text.proofs.Terms.{List, length, ℕ, ◌-◌, ◌^◌, ◌≡◌, ◌≤◌, Moved, Turned, framing}
use Rattle.trunk_text.proofs.framing.frame_lines.Given as goal

abbrev pub invariant-lines : goal.invariant-lines
invariant-lines g l = record {
  from : List ℕ;
  to : List ℕ;
  turned : Turned framing from to;
  moved : Moved (g.S.Source.told l.fn.source) (g.S.Source.told l.source) (g.K.Sink.told l.fn.sink) (g.K.Sink.told l.sink) from to;
  at : l.at ≡ length from;
  source : g.S.Source.fixed l.source ≡ g.S.Source.fixed l.fn.source;
  sink : g.K.Sink.fixed l.sink ≡ g.K.Sink.fixed l.fn.sink;
  source_later : g.S.Source.faults l.fn.source ≤ g.S.Source.faults l.source;
  sink_later : g.K.Sink.faults l.fn.sink ≤ g.K.Sink.faults l.sink;
}

abbrev pub decreases-lines : goal.decreases-lines
decreases-lines g l = 2 ^ 64 - l.at
