use Rattle.command_line.proofs.Terms.{length, ◌≡◌, are_positionals, parts_of}
use Rattle.command_line.proofs.parts.are_names.Given as goal

abbrev pub invariant-parts : goal.invariant-parts
invariant-parts l = are_positionals l.count (parts_of l.words).positionals ≡ are_positionals l.left (parts_of l.rest).positionals

abbrev pub decreases-parts : goal.decreases-parts
decreases-parts l = length l.rest
