use Rattle.command_line.proofs.Terms.{length, ◌≡◌, parts_of, has_option}
use Rattle.command_line.proofs.parts.is_there.Given as goal

abbrev pub invariant-parts : goal.invariant-parts
invariant-parts l = has_option l.name (parts_of l.words).options ≡ has_option l.name (parts_of l.rest).options

abbrev pub decreases-parts : goal.decreases-parts
decreases-parts l = length l.rest
