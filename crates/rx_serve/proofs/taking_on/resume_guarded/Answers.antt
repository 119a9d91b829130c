use Rattle.rx_serve.proofs.Terms.{ap, sym, ◌∙◌, permits, rule_of}
use Rattle.rx_serve.proofs.taking_on.resume_guarded.Goals as goal

pub resume_under-requires-clause-rule : goal.resume_under-requires-clause-rule
resume_under-requires-clause-rule g c = ap rule_of (sym c.in-Off.is)

pub resume_under-requires-in-Extent-clause-rule : goal.resume_under-requires-in-Extent-clause-rule
resume_under-requires-in-Extent-clause-rule g c = ap permits c.over-rule.ensures ∙ ap rule_of (sym c.in-Extent.is)

pub resume_under-requires-in-Block-clause-rule : goal.resume_under-requires-in-Block-clause-rule
resume_under-requires-in-Block-clause-rule g c = ap permits c.over-rule-in-Block.ensures ∙ ap rule_of (sym c.in-Block.is)
