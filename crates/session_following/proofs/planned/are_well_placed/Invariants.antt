use Rattle.std.proofs.Common.{◌↔◌}
use Rattle.session_following.proofs.Terms.{length, AreWellPlaced}
use Rattle.session_following.proofs.planned.are_well_placed.Given as goal

abbrev pub invariant-episodes : goal.invariant-episodes
invariant-episodes l = AreWellPlaced l.rest ↔ AreWellPlaced l.episodes

abbrev pub decreases-episodes : goal.decreases-episodes
decreases-episodes l = length l.rest
