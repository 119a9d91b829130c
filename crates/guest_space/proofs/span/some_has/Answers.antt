use Rattle.guest_space.proofs.Terms.{sym, ◌∙◌}
use Rattle.guest_space.proofs.FlatLemmas.{some_has-drop_has, some_has-drop_lacks, some_has-drop_all}
use Rattle.guest_space.proofs.span.some_has.Goals as goal

pub returns-then-has_address : goal.returns-then-has_address
returns-then-has_address c = sym (some_has-drop_has _ _ _ _ _ c.loop-span-test.true c.span-item.is (sym c.has_address.ensures ∙ c.if-has_address.true)) ∙ c.loop-span.invariant

pub loop-span-preserved : goal.loop-span-preserved
loop-span-preserved c = sym (some_has-drop_lacks _ _ _ _ _ c.loop-span-test.true c.span-item.is (sym c.has_address.ensures ∙ c.if-has_address.false)) ∙ c.loop-span.invariant

pub returns : goal.returns
returns c = sym (some_has-drop_all _ _ _ _ c.loop-span-test.false) ∙ c.loop-span.invariant
