use Rattle.command_line.proofs.Terms.{length, ◌≡◌, parts_of, row_read, given}
use Rattle.command_line.proofs.parts.given.Given as goal

abbrev pub invariant-parts : goal.invariant-parts
invariant-parts l = given (row_read l.row) (parts_of l.words).options ≡ given (row_read l.row) (parts_of l.rest).options

abbrev pub decreases-parts : goal.decreases-parts
decreases-parts l = length l.rest
