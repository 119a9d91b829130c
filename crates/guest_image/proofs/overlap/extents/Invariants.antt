use Rattle.guest_image.proofs.Terms.{map, take, ◌≡◌, extent_of}
use Rattle.guest_image.proofs.overlap.extents.Given as goal

abbrev pub invariant-segments : goal.invariant-segments
invariant-segments l = l.extents.items ≡ map extent_of (take l.segment-index l.segments)
