use Rattle.guest_space.proofs.StartLemmas.{Filling}
use Rattle.guest_space.proofs.filling.fill.Given as goal

-- the segments so far are filled
abbrev pub invariant-loop-segment : goal.invariant-loop-segment
invariant-loop-segment l = Filling l.fn.store l.base l.segment-index l.segments l.store
