use Rattle.schedule_file.proofs.Terms.{ap, false, sym, true, ◌∙◌, bytes_eq, clipped, first_number, second_number}
use Rattle.schedule_file.proofs.Told.{no_end, end_by}
use Rattle.schedule_file.proofs.telling.end_of.Goals as goal

pub returns-then-not-is_end : goal.returns-then-not-is_end
returns-then-not-is_end c =
    no_end c.args.line.now c.two_numbers-steps.result.0 c.two_numbers-steps.result.1
    (c.two_numbers-steps.ensures.first ∙ ap (λ bytes. clipped (first_number bytes)) c.behind.ensures)
    (c.two_numbers-steps.ensures.second ∙ ap (λ bytes. clipped (second_number bytes)) c.behind.ensures)
    (sym c.is_end.ensures ∙ c.if-not-is_end.true)

pub returns-then-is_same : goal.returns-then-is_same
returns-then-is_same c =
    sym (end_by c.args.line.now c.two_numbers-steps.result.0 c.two_numbers-steps.result.1 true
    (c.two_numbers-steps.ensures.first ∙ ap (λ bytes. clipped (first_number bytes)) c.behind.ensures)
    (c.two_numbers-steps.ensures.second ∙ ap (λ bytes. clipped (second_number bytes)) c.behind.ensures)
    (sym c.is_end.ensures ∙ c.if-not-is_end.false)
    (ap (λ bytes. bytes_eq bytes c.args.line.now) (sym (c.as_slice.ensures ∙ c.in_ok-text.ensures)) ∙ sym c.is_same.ensures ∙ c.if-is_same.true))

pub returns : goal.returns
returns c =
    sym (end_by c.args.line.now c.two_numbers-steps.result.0 c.two_numbers-steps.result.1 false
    (c.two_numbers-steps.ensures.first ∙ ap (λ bytes. clipped (first_number bytes)) c.behind.ensures)
    (c.two_numbers-steps.ensures.second ∙ ap (λ bytes. clipped (second_number bytes)) c.behind.ensures)
    (sym c.is_end.ensures ∙ c.if-not-is_end.false)
    (ap (λ bytes. bytes_eq bytes c.args.line.now) (sym (c.as_slice.ensures ∙ c.in_ok-text.ensures)) ∙ sym c.is_same.ensures ∙ c.if-is_same.false))
