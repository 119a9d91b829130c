use Rattle.trunk_wire.proofs.Terms.{length, take, ◌-◌, ◌≡◌, ◌≤◌, Reads}
use Rattle.trunk_wire.proofs.reading.fill.Given as goal

abbrev pub invariant-fill : goal.invariant-fill
invariant-fill g l = record {
  within : l.filled ≤ length l.buffer;
  bytes : Reads (g.S.Source.told l.fn.source) (g.S.Source.told l.source) l.fn.took l.took (take l.filled l.buffer);
  fixed : g.S.Source.fixed l.source ≡ g.S.Source.fixed l.fn.source;
  later : g.S.Source.faults l.fn.source ≤ g.S.Source.faults l.source;
}

abbrev pub decreases-fill : goal.decreases-fill
decreases-fill g l = length l.initial.buffer - l.filled
