use Rattle.counts_file.proofs.Terms.{ap, false, sym, true, ◌∙◌, bytes_eq}
use Rattle.counts_file.proofs.Written.{count_by, no_count}
use Rattle.counts_file.proofs.telling.count_in.Goals as goal

pub returns-then-not-is_count : goal.returns-then-not-is_count
returns-then-not-is_count c =
    no_count c.args.least c.args.line.now c.two_numbers-conn.result.0 c.two_numbers-conn.result.1 c.two_numbers-conn.ensures.first c.two_numbers-conn.ensures.second
    (sym c.is_count.ensures ∙ c.if-not-is_count.true)

pub returns-then-is_same : goal.returns-then-is_same
returns-then-is_same c =
    sym (count_by c.args.least c.args.line.now c.two_numbers-conn.result.0 c.two_numbers-conn.result.1 true c.two_numbers-conn.ensures.first c.two_numbers-conn.ensures.second
    (sym c.is_count.ensures ∙ c.if-not-is_count.false)
    (ap (λ bytes. bytes_eq bytes c.args.line.now) (sym (c.as_slice.ensures ∙ c.in_ok-text.ensures)) ∙ sym c.is_same.ensures ∙ c.if-is_same.true))

pub returns : goal.returns
returns c =
    sym (count_by c.args.least c.args.line.now c.two_numbers-conn.result.0 c.two_numbers-conn.result.1 false c.two_numbers-conn.ensures.first c.two_numbers-conn.ensures.second
    (sym c.is_count.ensures ∙ c.if-not-is_count.false)
    (ap (λ bytes. bytes_eq bytes c.args.line.now) (sym (c.as_slice.ensures ∙ c.in_ok-text.ensures)) ∙ sym c.is_same.ensures ∙ c.if-is_same.false))
