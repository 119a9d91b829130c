use Rattle.asm_lines.proofs.Terms.{drop, ◌≡◌, look_up}
use Rattle.asm_lines.specs.Tables.{rows_of}
use Rattle.asm_lines.proofs.tables.look_up.Given as goal

abbrev pub invariant-rows : goal.invariant-rows
invariant-rows g l = look_up (rows_of (drop l.known-index l.rows)) l.name ≡ look_up (rows_of l.rows) l.name
