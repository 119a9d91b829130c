use Rattle.report_reading.proofs.Terms.{Ok, arith, length, subst, sym, ◌+◌, ◌∙◌, ◌≤◌, ReadReport, ReadsReport, next_of, so_far}
use Rattle.report_reading.proofs.Coded.{front_by, shorter, refuses_torn, refuses_head, begins, goes_on, refuses_line, refuses_behind, reads, took_none, took_some}
use Rattle.report_reading.proofs.reading.read_report.Goals as goal

pub returns-in_default : goal.returns-in_default
returns-in_default c = refuses_torn c.args.bytes.now c.in_default.ensures

pub returns-in_default-2 : goal.returns-in_default-2
returns-in_default-2 c =
    let parts = c.in-Some.ensures in
    refuses_head c.args.bytes.now c.in-Some.line.now c.in-Some.behind.now c.in_ok-reading.field-0 (front_by c.args.bytes.now c.in-Some.line.now c.in-Some.behind.now parts.0 parts.1 parts.2) c.in_ok-reading.ensures c.in_default-2.is

pub lines-init : goal.lines-init
lines-init c =
    let parts = c.in-Some.ensures in
    let front = front_by c.args.bytes.now c.in-Some.line.now c.in-Some.behind.now parts.0 parts.1 parts.2 in
    record {
      read = begins c.args.bytes.now c.in-Some.line.now c.in-Some.behind.now c.in_ok-reading.field-0 c.in-Some-2.reading front c.in_ok-reading.ensures c.in-Some-2.is;
      few = shorter c.args.bytes.now c.in-Some.line.now c.in-Some.behind.now front;
    }

pub returns-then-not-branch : goal.returns-then-not-branch
returns-then-not-branch c =
    let parts = c.in-Some-split_line.ensures in
    let front = front_by c.lines.rest.now c.in-Some-split_line.line.now c.in-Some-split_line.behind.now parts.0 parts.1 parts.2 in
    refuses_line c.args.bytes.now c.lines.rest.now c.in-Some-split_line.line.now c.in-Some-split_line.behind.now c.lines.number c.lines.reading c.lines.invariant.read front
    (took_none (next_of (so_far c.lines.reading) c.in-Some-split_line.line.now) c.take.new.self c.in_ok-take.field-0 c.in_ok-take.ensures c.if-not-branch.true)

pub lines-smaller : goal.lines-smaller
lines-smaller c =
    let parts = c.in-Some-split_line.ensures in
    let front = front_by c.lines.rest.now c.in-Some-split_line.line.now c.in-Some-split_line.behind.now parts.0 parts.1 parts.2 in
    let less : 1 + length c.in-Some-split_line.behind.now ≤ length c.lines.rest.now = shorter c.lines.rest.now c.in-Some-split_line.line.now c.in-Some-split_line.behind.now front in
    omega arith

pub lines-preserved : goal.lines-preserved
lines-preserved c =
    let parts = c.in-Some-split_line.ensures in
    let front = front_by c.lines.rest.now c.in-Some-split_line.line.now c.in-Some-split_line.behind.now parts.0 parts.1 parts.2 in
    let less : 1 + length c.in-Some-split_line.behind.now ≤ length c.lines.rest.now = shorter c.lines.rest.now c.in-Some-split_line.line.now c.in-Some-split_line.behind.now front in
    record {
      read = goes_on c.args.bytes.now c.lines.rest.now c.in-Some-split_line.line.now c.in-Some-split_line.behind.now c.lines.number c.lines.reading c.take.new.self c.lines.invariant.read front
          (took_some (next_of (so_far c.lines.reading) c.in-Some-split_line.line.now) c.take.new.self c.in_ok-take.field-0 c.in_ok-take.ensures c.if-not-branch.false);
      few = omega (arith, c.lines.invariant.few);
    }

pub returns-then-is_behind_end : goal.returns-then-is_behind_end
returns-then-is_behind_end c =
    refuses_behind c.args.bytes.now c.lines.rest.now c.lines.number c.lines.reading c.lines.invariant.read c.in_default-split_line.ensures (sym c.is_behind_end.ensures ∙ c.if-is_behind_end.true)

pub returns : goal.returns
returns c =
    subst (λ (value : ReadReport). ReadsReport c.args.bytes.now (Ok value)) (sym c.into_report.ensures)
    (reads c.args.bytes.now c.lines.rest.now c.lines.number c.lines.reading c.lines.invariant.read c.in_default-split_line.ensures (sym c.is_behind_end.ensures ∙ c.if-is_behind_end.false))
