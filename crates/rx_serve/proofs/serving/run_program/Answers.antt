use Rattle.rx_serve.proofs.Terms.{ap, sym, ◌∙◌, permits, rule_of}
use Rattle.rx_serve.proofs.serving.run_program.Goals as goal

pub run_under-requires-clause-rule : goal.run_under-requires-clause-rule
run_under-requires-clause-rule g c = ap rule_of (sym c.in-Off.is)

pub run_under-requires-in-Extent-clause-rule : goal.run_under-requires-in-Extent-clause-rule
run_under-requires-in-Extent-clause-rule g c = ap permits c.over-rule.ensures ∙ ap rule_of (sym c.in-Extent.is)

pub run_under-requires-in-Block-clause-rule : goal.run_under-requires-in-Block-clause-rule
run_under-requires-in-Block-clause-rule g c = ap permits c.over-rule-in-Block.ensures ∙ ap rule_of (sym c.in-Block.is)
