use Rattle.guest_space.proofs.Terms.{sym, ◌∙◌}
use Rattle.guest_space.proofs.StretchLemmas.{range_long, stretch_has, stretch_open}
use Rattle.guest_space.proofs.span.stretch_of.Goals as goal

pub stretch-requires : goal.stretch-requires
stretch-requires c = range_long _ _ _ (sym c.has_range.ensures ∙ c.if-has_range.true)

pub returns-then-has_range-clause-open : goal.returns-then-has_range-clause-open
returns-then-has_range-clause-open c = stretch_open _ _ _ _ _ _ c.loop-span-test.true c.span-item.is (sym c.has_range.ensures ∙ c.if-has_range.true) c.stretch.ensures.below c.stretch.ensures.value

pub returns-then-has_range-clause-has : goal.returns-then-has_range-clause-has
returns-then-has_range-clause-has c = stretch_has _ _ _ _ (sym c.has_range.ensures ∙ c.if-has_range.true) c.stretch.ensures.value
