use Rattle.std.proofs.Common.{option_map}
use Rattle.command_line.proofs.Terms.{ap, rule_of, row_read}
use Rattle.command_line.proofs.Arguing.{default_rule, named_rule}
use Rattle.command_line.proofs.matching.option_arg.Goals as goal

pub returns-in-Some-clause-rule : goal.returns-in-Some-clause-rule
returns-in-Some-clause-rule c =
    default_rule c.new.result c.long-arg.result c.default_value.result _ _ (row_read c.args.row.now).takes _ c.new.ensures.rule c.long-arg.ensures (ap rule_of c.default_value.ensures) (ap (option_map (λ t. t.now)) c.in-Some.is)

pub returns-in-None-clause-rule : goal.returns-in-None-clause-rule
returns-in-None-clause-rule c =
    named_rule c.new.result c.long-arg.result _ (row_read c.args.row.now).takes _ c.new.ensures.rule c.long-arg.ensures (ap (option_map (λ t. t.now)) c.in-None.is)
