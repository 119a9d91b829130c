use Rattle.command_line.proofs.Terms.{drop, ◌≡◌, parts_of, rows_read, has_required}
use Rattle.command_line.proofs.parts.are_complete.Given as goal

abbrev pub invariant-loop-row : goal.invariant-loop-row
invariant-loop-row l = has_required (rows_read (drop l.row-index l.rows)) (parts_of l.words).options ≡ has_required (rows_read l.rows) (parts_of l.words).options
