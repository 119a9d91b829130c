use Rattle.schedule_file.proofs.Terms.{ap, false, sym, true, ◌∙◌, bytes_eq, behind_digits, clipped, number_from}
use Rattle.schedule_file.proofs.Told.{no_head, head_by}
use Rattle.schedule_file.proofs.telling.head_of.Goals as goal

pub returns-then-not-is_head : goal.returns-then-not-is_head
returns-then-not-is_head c =
    let version = c.number_in_front-version in
    let window = c.number_in_front-window in
    no_head c.args.line.now version.result.1.now version.result.0 window.result.0
    (version.ensures.number ∙ ap (λ bytes. clipped (number_from 0 bytes)) c.behind.ensures)
    (version.ensures.rest ∙ ap behind_digits c.behind.ensures)
    (window.ensures.number ∙ ap (λ bytes. clipped (number_from 0 bytes)) c.behind-2.ensures)
    (sym c.is_head.ensures ∙ c.if-not-is_head.true)

pub returns-then-is_same : goal.returns-then-is_same
returns-then-is_same c =
    let version = c.number_in_front-version in
    let window = c.number_in_front-window in
    sym (head_by c.args.line.now version.result.1.now window.result.1.now version.result.0 window.result.0 c.frame_told.result true
    (version.ensures.number ∙ ap (λ bytes. clipped (number_from 0 bytes)) c.behind.ensures)
    (version.ensures.rest ∙ ap behind_digits c.behind.ensures)
    (window.ensures.number ∙ ap (λ bytes. clipped (number_from 0 bytes)) c.behind-2.ensures)
    (window.ensures.rest ∙ ap behind_digits c.behind-2.ensures)
    c.frame_told.ensures
    (sym c.is_head.ensures ∙ c.if-not-is_head.false)
    (ap (λ bytes. bytes_eq bytes c.args.line.now) (sym (c.as_slice.ensures ∙ c.in_ok-text.ensures)) ∙ sym c.is_same.ensures ∙ c.if-is_same.true))

pub returns : goal.returns
returns c =
    let version = c.number_in_front-version in
    let window = c.number_in_front-window in
    sym (head_by c.args.line.now version.result.1.now window.result.1.now version.result.0 window.result.0 c.frame_told.result false
    (version.ensures.number ∙ ap (λ bytes. clipped (number_from 0 bytes)) c.behind.ensures)
    (version.ensures.rest ∙ ap behind_digits c.behind.ensures)
    (window.ensures.number ∙ ap (λ bytes. clipped (number_from 0 bytes)) c.behind-2.ensures)
    (window.ensures.rest ∙ ap behind_digits c.behind-2.ensures)
    c.frame_told.ensures
    (sym c.is_head.ensures ∙ c.if-not-is_head.false)
    (ap (λ bytes. bytes_eq bytes c.args.line.now) (sym (c.as_slice.ensures ∙ c.in_ok-text.ensures)) ∙ sym c.is_same.ensures ∙ c.if-is_same.false))
