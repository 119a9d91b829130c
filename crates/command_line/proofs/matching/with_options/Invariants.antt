use Rattle.command_line.proofs.Terms.{drop, fold, map, ◌≡◌, app_of, with_rule, row_read, option_rule}
use Rattle.command_line.proofs.matching.with_options.Given as goal

abbrev pub invariant-loop-row : goal.invariant-loop-row
invariant-loop-row l =
    fold with_rule (app_of l.command) (map option_rule (map row_read (drop l.row-index l.rows)))
    ≡ fold with_rule (app_of l.fn.command) (map option_rule (map row_read l.rows))
