use Rattle.command_line.proofs.Terms.{length, ◌≡◌, parts_of, rows_read, are_options}
use Rattle.command_line.proofs.parts.are_taken.Given as goal

abbrev pub invariant-parts : goal.invariant-parts
invariant-parts l = are_options (rows_read l.rows) (parts_of l.words).options ≡ are_options (rows_read l.rows) (parts_of l.rest).options

abbrev pub decreases-parts : goal.decreases-parts
decreases-parts l = length l.rest
