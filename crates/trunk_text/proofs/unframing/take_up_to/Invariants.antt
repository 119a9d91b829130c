use Rattle.trunk_text.proofs.Terms.{length, vec_len, ◌-◌, ◌≡◌, ◌≤◌, Took}
use Rattle.trunk_text.proofs.unframing.take_up_to.Given as goal

abbrev pub invariant-bytes : goal.invariant-bytes
invariant-bytes g l = record {
  few : length l.bytes.items ≤ l.count;
  took : Took (g.S.Source.told l.fn.source) (g.S.Source.told l.source) l.bytes.items;
  fixed : g.S.Source.fixed l.source ≡ g.S.Source.fixed l.fn.source;
  later : g.S.Source.faults l.fn.source ≤ g.S.Source.faults l.source;
}

abbrev pub decreases-bytes : goal.decreases-bytes
decreases-bytes g l = l.count - vec_len l.bytes
