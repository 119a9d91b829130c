use Rattle.guest_image.proofs.Terms.{drop, ◌≡◌, meets_from}
use Rattle.guest_image.proofs.overlap.neighbours_meet.Given as goal

abbrev pub invariant-extents : goal.invariant-extents
invariant-extents l = meets_from l.end (drop l.extent-index l.extents) ≡ meets_from 0 l.extents
