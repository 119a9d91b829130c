use Rattle.alloc_env.proofs.Terms.{ap, arith, min, sym, ℕ, ◌+◌, ◌-◌, ◌∙◌, ◌≡◌, unwrap_or, reserved_size, reach_at, Treatment, treatment_of}
use Rattle.alloc_env.proofs.Mallocs.{carried-none, carried-some, reach-small}
use Rattle.alloc_env.proofs.serving.carried_over.Goals as goal

pub returns-then-side-eq0 : goal.returns-then-side-eq0
returns-then-side-eq0 c =
    sym (carried-none c.args.env c.args.book.now c.args.old c.args.size (ap (λ (t : Treatment). t.side) (sym c.treatment-side.ensures.value) ∙ c.if-side-eq0.true))

pub overflow_cast-result : goal.overflow_cast-result
overflow_cast-result c =
    let reach : c.unwrap_or-reach.result ≡ unwrap_or (reach_at c.args.book.now c.args.old) 0 = c.unwrap_or-reach.ensures ∙ ap (λ o. unwrap_or o 0) c.live_reach.ensures in
    let small = reach-small c.args.book.now c.args.old c.sound.ensures.heap c.sound.ensures.within in
    omega (arith, reach, small)

pub returns : goal.returns
returns c =
    let here : ℕ = unwrap_or (reach_at c.args.book.now c.args.old) 0 in
    let reach : c.unwrap_or-reach.result ≡ here = c.unwrap_or-reach.ensures ∙ ap (λ o. unwrap_or o 0) c.live_reach.ensures in
    let side : c.treatment-side.result.side ≡ (treatment_of c.args.env).side = ap (λ (t : Treatment). t.side) c.treatment-side.ensures.value in
    let brought : c.min-brought.result ≡ min here (reserved_size c.args.size + (treatment_of c.args.env).side) =
    c.min-brought.ensures
    ∙ ap (λ (n : ℕ). min n (c.reserved_size.result + c.from.result)) reach
    ∙ ap (λ (n : ℕ). min here (n + c.from.result)) c.reserved_size.ensures.value
    ∙ ap (λ (n : ℕ). min here (reserved_size c.args.size + n)) (c.from.ensures ∙ side) in
    c.saturating_sub.ensures
    ∙ ap (λ (n : ℕ). n - c.from-2.result) brought
    ∙ ap (λ (n : ℕ). min here (reserved_size c.args.size + (treatment_of c.args.env).side) - n) (c.from-2.ensures ∙ c.kept.ensures)
    ∙ sym (carried-some c.args.env c.args.book.now c.args.old c.args.size (λ none. c.if-side-eq0.false (side ∙ none)))
