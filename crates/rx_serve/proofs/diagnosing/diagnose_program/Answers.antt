use Rattle.rx_serve.proofs.Terms.{ap, sym, ◌∙◌, permits, rule_of}
use Rattle.rx_serve.proofs.diagnosing.diagnose_program.Goals as goal

pub diagnose_under-requires-clause-rule : goal.diagnose_under-requires-clause-rule
diagnose_under-requires-clause-rule g c = ap rule_of (sym c.in-Off.is)

pub diagnose_under-requires-in-Extent-clause-rule : goal.diagnose_under-requires-in-Extent-clause-rule
diagnose_under-requires-in-Extent-clause-rule g c = ap permits c.over-rule.ensures ∙ ap rule_of (sym c.in-Extent.is)

pub diagnose_under-requires-in-Block-clause-rule : goal.diagnose_under-requires-in-Block-clause-rule
diagnose_under-requires-in-Block-clause-rule g c = ap permits c.over-rule-in-Block.ensures ∙ ap rule_of (sym c.in-Block.is)
