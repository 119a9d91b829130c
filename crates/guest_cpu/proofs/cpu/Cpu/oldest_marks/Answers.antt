use Rattle.guest_cpu.proofs.Terms.{IfSome, ap, arith, length, refl, subst, sym, ◌-◌, ◌<◌, ◌≡◌, slice_get_read, slice_get, length-checkpoints_in, saved_slot, checkpoints_in, oldest_of, marks_of, CpuState, state_in}
use Rattle.guest_cpu.proofs.OldestLemmas.{marks_at}
use Rattle.guest_cpu.proofs.cpu.Cpu.oldest_marks.Goals as goal

pub returns : goal.returns
returns g c =
    let s = c.self.inside in
    let slot = c.oldest.result in
    let place = ap (λ n. n - 1) (length-checkpoints_in (state_in s.space s.saved.items) s.space.store s.ring.order) in
    let near : slot < length s.saved.items = omega (arith, (saved_slot s.space.store s.ring (length s.ring.order - 1) slot c.self.invariant.0.line_is c.oldest.ensures).0, c.self.invariant.0.each_slot) in
    subst (λ (state : CpuState _). IfSome (oldest_of state.slots.saved) (λ one. c.index.result.now.marks ≡ marks_of one.state)) c.self.view_is
    (subst (λ n. IfSome (slice_get (checkpoints_in (state_in s.space s.saved.items) s.space.store s.ring.order) n) (λ one. c.index.result.now.marks ≡ marks_of one.state)) (sym place)
    (marks_at s.space s.saved.items s.ring (length s.ring.order - 1) slot c.index.result.now c.self.invariant.0.line_is c.oldest.ensures
    (slice_get_read s.saved.items (length s.saved.items) slot c.index.result.now refl near c.index.ensures) (λ o. IfSome o (λ one. c.index.result.now.marks ≡ marks_of one.state)) (λ one same. same)))
