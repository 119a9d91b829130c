use Rattle.guest_space.proofs.Terms.{sym, ◌∙◌}
use Rattle.guest_space.proofs.FlatLemmas.{range_held}
use Rattle.guest_space.proofs.span.one_has.Goals as goal

pub returns-then-has_range : goal.returns-then-has_range
returns-then-has_range c = range_held _ _ _ _ _ _ c.loop-span-test.true c.span-item.is (sym c.has_range.ensures ∙ c.if-has_range.true)
