use Rattle.guest_image.proofs.Terms.{ap, drop, sym, ◌+◌, ◌∙◌, lowest}
use Rattle.guest_image.proofs.Windows.{lowest_from, lowest_from-first, lowest_from-drop, lowest_from-drop_all}
use Rattle.guest_image.proofs.layout.lowest.Goals as goal

pub loop-segment-init : goal.loop-segment-init
loop-segment-init c = lowest_from-first c.in-Some.first.now c.in-Some.others.now ∙ ap lowest (sym c.in-Some.ensures.cases.0)

pub loop-segment-preserved : goal.loop-segment-preserved
loop-segment-preserved c =
    ap (λ low. lowest_from low (drop (c.loop-segment.segment-index + 1) c.in-Some.others.now)) c.min-low.ensures
    ∙ lowest_from-drop c.loop-segment.low c.in-Some.others.now _ c.segment-item.result c.loop-segment-test.true c.segment-item.is
    ∙ c.loop-segment.invariant

pub returns : goal.returns
returns c = sym (lowest_from-drop_all c.loop-segment.low _ _ c.loop-segment-test.false) ∙ c.loop-segment.invariant
