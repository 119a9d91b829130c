use Rattle.ckpt_ring.proofs.Terms.{eqb, true, ℕ, ◌<◌, ◌≡◌, list_any}
use Rattle.ckpt_ring.proofs.ring.Ring.free_slot.Given as goal

abbrev pub invariant-loop-slot : goal.invariant-loop-slot
invariant-loop-slot l = (lower : ℕ) → lower < l.slot → list_any (eqb lower) l.self.order ≡ true
