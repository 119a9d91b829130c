use Rattle.guest_image.proofs.Terms.{sym, ◌∙◌}
use Rattle.guest_image.proofs.Windows.{highest-drop_all}
use Rattle.guest_image.proofs.layout.highest.Goals as goal

pub returns-clause-value : goal.returns-clause-value
returns-clause-value c = sym (highest-drop_all c.loop-segment.high _ _ c.loop-segment-test.false) ∙ c.loop-segment.invariant.rest
