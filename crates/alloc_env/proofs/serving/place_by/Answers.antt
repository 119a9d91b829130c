use Rattle.alloc_env.proofs.Terms.{ap, sym, ◌∙◌, not-false, not-true, option_or, Heap, placement, Treatment, treatment_of}
use Rattle.alloc_env.proofs.Mallocs.{spot-anywhere, spot-above}
use Rattle.alloc_env.proofs.serving.place_by.Goals as goal

pub returns-then-not-treatment-clause-answer : goal.returns-then-not-treatment-clause-answer
returns-then-not-treatment-clause-answer c =
    let heap = c.args.book.now in
    let value = c.treatment-treatment.ensures.value in
    let low = ap (λ (t : Treatment). t.isolates) (sym value) ∙ not-true c.treatment-treatment.result.isolates c.if-not-treatment.true in
    c.place.ensures.answer
    ∙ ap (λ (t : Treatment). placement heap c.args.size t.side 0) value
    ∙ sym (spot-anywhere c.args.env heap c.args.size low)

pub returns-in-Some-clause-answer : goal.returns-in-Some-clause-answer
returns-in-Some-clause-answer c =
    let heap = c.args.book.now in
    let value = c.treatment-treatment.ensures.value in
    let high = ap (λ (t : Treatment). t.isolates) (sym value) ∙ not-false c.treatment-treatment.result.isolates c.if-not-treatment.false in
    let above = c.in-Some.ensures.answer
    ∙ ap (λ (t : Treatment). placement heap c.args.size t.side c.middle-from.result) value
    ∙ ap (placement heap c.args.size (treatment_of c.args.env).side) c.middle-from.ensures in
    ap (λ o. option_or o (placement heap c.args.size (treatment_of c.args.env).side 0)) above ∙ sym (spot-above c.args.env heap c.args.size high)

pub returns-in-None-clause-answer : goal.returns-in-None-clause-answer
returns-in-None-clause-answer c =
    let heap = c.args.book.now in
    let value = c.treatment-treatment.ensures.value in
    let high = ap (λ (t : Treatment). t.isolates) (sym value) ∙ not-false c.treatment-treatment.result.isolates c.if-not-treatment.false in
    let above = c.in-None.ensures.answer
    ∙ ap (λ (t : Treatment). placement heap c.args.size t.side c.middle-from.result) value
    ∙ ap (placement heap c.args.size (treatment_of c.args.env).side) c.middle-from.ensures in
    c.place-in-None.ensures.answer
    ∙ ap (λ (h : Heap). placement h c.args.size c.treatment-treatment.result.side 0) c.in-None.ensures.placed
    ∙ ap (λ (t : Treatment). placement heap c.args.size t.side 0) value
    ∙ ap (λ o. option_or o (placement heap c.args.size (treatment_of c.args.env).side 0)) above
    ∙ sym (spot-above c.args.env heap c.args.size high)
