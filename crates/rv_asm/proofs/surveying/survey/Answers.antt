use Rattle.rv_asm.proofs.Terms.{arith, length, sym, ◌∙◌, ◌≢◌, eqb-false}
use Rattle.rv_asm.proofs.Surveys.{survey_stops, survey_ends, survey_goes_on}
use Rattle.rv_asm.proofs.surveying.survey.Goals as goal

pub returns-in-Err : goal.returns-in-Err
returns-in-Err c =
    rw c.at_line.ensures
    (survey_stops c.args.text.now c.lines.rest.now c.split_line.result.0.now c.split_line.result.1.now c.lines.layout c.add_line.new.self c.is_empty-last.result c.in-Err.trouble c.lines.invariant.first c.split_line.ensures.lines c.is_empty-last.ensures c.in-Err.ensures)

pub returns-then-last : goal.returns-then-last
returns-then-last c =
    survey_ends c.args.text.now c.lines.rest.now c.split_line.result.0.now c.split_line.result.1.now c.lines.layout c.add_line.new.self _ c.lines.invariant.first c.lines.invariant.after c.split_line.ensures.lines c.is_empty-last.ensures c.if-last.true c.in_default.ensures.0 c.in_default.ensures.1

pub lines-preserved : goal.lines-preserved
lines-preserved c =
    let goes_on = survey_goes_on c.args.text.now c.lines.rest.now c.split_line.result.0.now c.split_line.result.1.now c.lines.layout c.add_line.new.self _ c.lines.invariant.first c.lines.invariant.after c.split_line.ensures.lines c.is_empty-last.ensures c.if-last.false c.in_default.ensures.0 c.in_default.ensures.1 in
    let some : length c.split_line.result.1.now ≢ 0 = eqb-false _ _ (sym c.is_empty-last.ensures ∙ c.if-last.false) in
    record { first = goes_on.0; after = goes_on.1; count = omega (arith, goes_on.2, some) }
