use Rattle.command_line.proofs.Terms.{drop, ◌≡◌, rows_read, is_taken}
use Rattle.command_line.proofs.parts.is_taken.Given as goal

abbrev pub invariant-loop-row : goal.invariant-loop-row
invariant-loop-row l = is_taken (rows_read (drop l.row-index l.rows)) l.word l.value ≡ is_taken (rows_read l.rows) l.word l.value
