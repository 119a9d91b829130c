use Rattle.command_line.proofs.Terms.{ap, ◌∙◌, app_of, with_rule, row_read, option_rule}
use Rattle.command_line.proofs.Listed.{fold_next, fold_past}
use Rattle.command_line.proofs.matching.with_options.Goals as goal

pub loop-row-preserved : goal.loop-row-preserved
loop-row-preserved c =
    fold_next with_rule option_rule row_read c.args.rows.now c.loop-row.row-index _ (app_of c.loop-row.command) _ _ c.loop-row-test.true
    (c.in_ok-command.ensures.shape c.option_arg.ensures.local ∙ ap (with_rule (app_of c.loop-row.command)) c.option_arg.ensures.rule) c.loop-row.invariant

pub returns : goal.returns
returns c = fold_past with_rule option_rule row_read c.args.rows.now c.loop-row.row-index _ _ c.loop-row-test.false c.loop-row.invariant
