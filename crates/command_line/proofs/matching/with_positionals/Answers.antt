use Rattle.clap.specs.Words.{Text}
use Rattle.command_line.proofs.Terms.{Bor, ap, ◌∙◌, app_of, new_rule, with_rule}
use Rattle.command_line.proofs.Listed.{fold_next, fold_past}
use Rattle.command_line.proofs.matching.with_positionals.Goals as goal

pub loop-name-preserved : goal.loop-name-preserved
loop-name-preserved c =
    fold_next with_rule new_rule (λ (t : Bor Text). t.now) c.args.names.now c.loop-name.name-index _ (app_of c.loop-name.command) _ _ c.loop-name-test.true
    (c.in_ok-command.ensures.shape c.new.ensures.optional.1 ∙ ap (with_rule (app_of c.loop-name.command)) c.new.ensures.rule) c.loop-name.invariant

pub returns : goal.returns
returns c = fold_past with_rule new_rule (λ (t : Bor Text). t.now) c.args.names.now c.loop-name.name-index _ _ c.loop-name-test.false c.loop-name.invariant
