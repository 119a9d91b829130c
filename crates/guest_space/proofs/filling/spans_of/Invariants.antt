use Rattle.guest_space.proofs.Terms.{map, take, ◌≡◌, segment_span}
use Rattle.guest_space.proofs.filling.spans_of.Given as goal

abbrev pub invariant-loop-segment : goal.invariant-loop-segment
invariant-loop-segment l = l.spans.items ≡ map segment_span (take l.segment-index l.segments)
