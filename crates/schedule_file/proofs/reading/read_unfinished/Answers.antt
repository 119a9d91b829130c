use Rattle.std.specs.Global.{Vec}
use Rattle.std.specs.Vec.{vec_len}
use Rattle.schedule_file.proofs.Terms.{Err, Ok, arith, length, subst, sym, ℕ, ◌+◌, ◌∙◌, ◌≡◌, Line, Refused, Unfinished, ReadsUnfinished}
use Rattle.schedule_file.proofs.Whole.{found, refuses_head, refuses_line, refuses_more, reads_torn, reads_finish}
use Rattle.schedule_file.proofs.reading.read_unfinished.Goals as goal

counted : (lines : Vec Line) → vec_len lines ≡ length lines.items
counted lines = omega (arith, lines.ok.0)

pub returns-in_default : goal.returns-in_default
returns-in_default c = refuses_head c.args.bytes.now c.split_line.result.0.now c.split_line.ensures.line (sym c.in_default.is ∙ c.in_ok-head.ensures)

pub returns-then-is_line : goal.returns-then-is_line
returns-then-is_line c =
    let is = found c.args.bytes.now c.split_line.result.0.now c.split_line.result.1.now c.in-Some.head c.in_ok-lines.lines.items c.in_ok-lines.rest.now
    c.split_line.ensures.line c.split_line.ensures.rest (sym c.in-Some.is ∙ c.in_ok-head.ensures) c.in_ok-lines.ensures in
    subst (λ (n : ℕ). ReadsUnfinished c.args.bytes.now (Err (Refused (n + 2)))) (sym (c.len.ensures ∙ counted c.in_ok-lines.lines))
    (refuses_line c.args.bytes.now c.in-Some.head c.in_ok-lines.lines.items c.in_ok-lines.rest.now c.split_line-2.result.0.now is
    c.split_line-2.ensures.line (sym c.in_default-2.is ∙ c.in_ok-finish.ensures) (sym c.is_line.ensures ∙ c.if-is_line.true))

pub returns-in_default-2 : goal.returns-in_default-2
returns-in_default-2 c =
    let is = found c.args.bytes.now c.split_line.result.0.now c.split_line.result.1.now c.in-Some.head c.in_ok-lines.lines.items c.in_ok-lines.rest.now
    c.split_line.ensures.line c.split_line.ensures.rest (sym c.in-Some.is ∙ c.in_ok-head.ensures) c.in_ok-lines.ensures in
    subst (λ (value : Unfinished). ReadsUnfinished c.args.bytes.now (Ok value)) (sym c.unfinished.ensures)
    (reads_torn c.args.bytes.now c.in-Some.head c.in_ok-lines.lines.items c.in_ok-lines.rest.now c.split_line-2.result.0.now is
    c.split_line-2.ensures.line (sym c.is_line.ensures ∙ c.if-is_line.false))

pub returns-then-not-is_empty : goal.returns-then-not-is_empty
returns-then-not-is_empty c =
    let is = found c.args.bytes.now c.split_line.result.0.now c.split_line.result.1.now c.in-Some.head c.in_ok-lines.lines.items c.in_ok-lines.rest.now
    c.split_line.ensures.line c.split_line.ensures.rest (sym c.in-Some.is ∙ c.in_ok-head.ensures) c.in_ok-lines.ensures in
    subst (λ (n : ℕ). ReadsUnfinished c.args.bytes.now (Err (Refused (n + 2 + 1)))) (sym (c.len.ensures ∙ counted c.in_ok-lines.lines))
    (refuses_more c.args.bytes.now c.in-Some.head c.in_ok-lines.lines.items c.in_ok-lines.rest.now c.split_line-2.result.0.now c.split_line-2.result.1.now c.in-Some-2.finish is
    c.split_line-2.ensures.line (sym c.in-Some-2.is ∙ c.in_ok-finish.ensures) c.split_line-2.ensures.rest
    (sym c.is_empty.ensures ∙ c.if-not-is_empty.true))

pub returns : goal.returns
returns c =
    let is = found c.args.bytes.now c.split_line.result.0.now c.split_line.result.1.now c.in-Some.head c.in_ok-lines.lines.items c.in_ok-lines.rest.now
    c.split_line.ensures.line c.split_line.ensures.rest (sym c.in-Some.is ∙ c.in_ok-head.ensures) c.in_ok-lines.ensures in
    subst (λ (value : Unfinished). ReadsUnfinished c.args.bytes.now (Ok value)) (sym c.unfinished-2.ensures)
    (reads_finish c.args.bytes.now c.in-Some.head c.in_ok-lines.lines.items c.in_ok-lines.rest.now c.split_line-2.result.0.now c.split_line-2.result.1.now c.in-Some-2.finish is
    c.split_line-2.ensures.line (sym c.in-Some-2.is ∙ c.in_ok-finish.ensures) c.split_line-2.ensures.rest
    (sym c.is_empty.ensures ∙ c.if-not-is_empty.false))
