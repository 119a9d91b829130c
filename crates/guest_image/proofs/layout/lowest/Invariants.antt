use Rattle.guest_image.proofs.Terms.{drop, ◌≡◌, lowest}
use Rattle.guest_image.proofs.Windows.{lowest_from}
use Rattle.guest_image.proofs.layout.lowest.Given as goal

abbrev pub invariant-loop-segment : goal.invariant-loop-segment
invariant-loop-segment l = lowest_from l.low (drop l.segment-index l.others) ≡ lowest l.fn.segments
