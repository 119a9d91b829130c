use Rattle.std.proofs.Common.{slice_get}
use Rattle.command_line.proofs.Terms.{length, ◌≡◌, parts_of}
use Rattle.command_line.proofs.parts.positional.Given as goal

abbrev pub invariant-parts : goal.invariant-parts
invariant-parts l = slice_get (parts_of l.words).positionals l.index ≡ slice_get (parts_of l.rest).positionals l.left

abbrev pub decreases-parts : goal.decreases-parts
decreases-parts l = length l.rest
