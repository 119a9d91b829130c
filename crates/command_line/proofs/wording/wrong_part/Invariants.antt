use Rattle.command_line.proofs.Terms.{length}
use Rattle.command_line.proofs.wording.wrong_part.Given as goal

abbrev pub decreases-parts : goal.decreases-parts
decreases-parts l = length l.rest
