use Rattle.schedule_file.proofs.Terms.{ap, false, sym, true, ◌∙◌, bytes_eq}
use Rattle.schedule_file.proofs.Told.{no_answer, answer_by}
use Rattle.schedule_file.proofs.telling.answer_of.Goals as goal

pub returns-then-not-is_answer : goal.returns-then-not-is_answer
returns-then-not-is_answer c = no_answer c.args.version c.args.line.now c.line_told-answer.result c.line_told-answer.ensures (sym c.is_answer.ensures ∙ c.if-not-is_answer.true)

pub returns-then-is_same : goal.returns-then-is_same
returns-then-is_same c =
    sym (answer_by c.args.version c.args.line.now c.line_told-answer.result true c.line_told-answer.ensures (sym c.is_answer.ensures ∙ c.if-not-is_answer.false)
    (ap (λ bytes. bytes_eq bytes c.args.line.now) (sym (c.as_slice.ensures ∙ c.line_text.ensures)) ∙ sym c.is_same.ensures ∙ c.if-is_same.true))

pub returns-else-is_same : goal.returns-else-is_same
returns-else-is_same c =
    sym (answer_by c.args.version c.args.line.now c.line_told-answer.result false c.line_told-answer.ensures (sym c.is_answer.ensures ∙ c.if-not-is_answer.false)
    (ap (λ bytes. bytes_eq bytes c.args.line.now) (sym (c.as_slice.ensures ∙ c.line_text.ensures)) ∙ sym c.is_same.ensures ∙ c.if-is_same.false))
