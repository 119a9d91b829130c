use Rattle.std.proofs.lemmas.Cmp.{nat_eq_equiv}
use Rattle.std.specs.Prelude.{Contains}
use Rattle.ckpt_ring.proofs.Terms.{List, arith, eqb, length, subst, sym, true, ℕ, ⊎_elim, ◌+◌, ◌<◌, ◌≡◌, ◌≤◌, cases_lt, le-length_from_below, list_any-from_Contains, list_any}
use Rattle.ckpt_ring.proofs.ring.Ring.free_slot.Goals as goal

-- where each number below their count is there, the next one isn't
free_from_all : (order : List ℕ) → ((slot : ℕ) → slot < length order → list_any (eqb slot) order ≡ true) → ¬ Contains order (length order)
free_from_all order all = λ has.
    let last : list_any (eqb (length order)) order ≡ true = list_any-from_Contains nat_eq_equiv (length order) order has in
    let each : (slot : ℕ) → slot < length order + 1 → list_any (eqb slot) order ≡ true = λ slot below.
    ⊎_elim (λ less. all slot less) (λ more. subst (λ n. list_any (eqb n) order ≡ true) (let same : length order ≡ slot = omega (arith, more, below) in same) last) (cases_lt slot (length order)) in
    let long : length order + 1 ≤ length order = le-length_from_below order (length order + 1) each in
    omega (arith, long)

pub returns-clause-free : goal.returns-clause-free
returns-clause-free c =
    subst (λ n. ¬ Contains c.args.self.now.order n) (sym c.len-saved.ensures)
    (free_from_all c.args.self.now.order (λ lower below. c.loop-slot.invariant lower (omega (arith, below, c.len-saved.ensures))))
