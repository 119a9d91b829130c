use Rattle.std.specs.Global.{Vec}
use Rattle.std.specs.Vec.{vec_len}
use Rattle.counts_file.proofs.Terms.{Err, List, Ok, arith, length, subst, sym, ℕ, ◌+◌, ◌∙◌, ◌≡◌, Refused, ReadsCounts}
use Rattle.counts_file.proofs.Refusing.{reads_counts, refuses_next}
use Rattle.counts_file.proofs.reading.read_counts.Goals as goal

counted : (lines : Vec (ℕ × ℕ)) → vec_len lines ≡ length lines.items
counted lines = omega (arith, lines.ok.0)

pub returns-then-not-is_empty : goal.returns-then-not-is_empty
returns-then-not-is_empty c =
    subst (λ (n : ℕ). ReadsCounts c.args.bytes.now (Err (Refused (n + 1)))) (sym (c.len.ensures ∙ counted c.in_ok-counts.counts))
    (refuses_next c.args.bytes.now c.in_ok-counts.counts.items c.in_ok-counts.rest.now c.in_ok-counts.ensures (sym c.is_empty.ensures ∙ c.if-not-is_empty.true))

pub returns : goal.returns
returns c =
    subst (λ (counts : List (ℕ × ℕ)). ReadsCounts c.args.bytes.now (Ok counts)) (sym c.from_vec.ensures)
    (reads_counts c.args.bytes.now c.in_ok-counts.counts.items c.in_ok-counts.rest.now c.in_ok-counts.ensures (sym c.is_empty.ensures ∙ c.if-not-is_empty.false))
