use Rattle.trunk_text.proofs.Terms.{length, true, vec_len, ◌+◌, ◌-◌, ◌≡◌, ◌≤◌, Took, MAX_LINE, is_bare}
use Rattle.trunk_text.proofs.framing.take_line.Given as goal

abbrev pub invariant-bytes : goal.invariant-bytes
invariant-bytes g l = record {
  bare : is_bare l.line.items ≡ true;
  short : length l.line.items ≤ MAX_LINE + 1;
  took : Took (g.S.Source.told l.fn.source) (g.S.Source.told l.source) l.line.items;
  fixed : g.S.Source.fixed l.source ≡ g.S.Source.fixed l.fn.source;
  later : g.S.Source.faults l.fn.source ≤ g.S.Source.faults l.source;
}

abbrev pub decreases-bytes : goal.decreases-bytes
decreases-bytes g l = MAX_LINE + 1 - vec_len l.line
