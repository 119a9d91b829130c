use Rattle.guest_cpu.proofs.Terms.{IsSomeAnd, ap, arith, length, refl, subst, ◌<◌, ◌≡◌, slice_get_read, slice_get, length-checkpoints_in, saved_slot, Marks, CpuState, state_in}
use Rattle.guest_cpu.proofs.OldestLemmas.{marks_at}
use Rattle.guest_cpu.proofs.snapshot.CpuSnapshot.taken_at.Goals as goal

pub slot_at-requires : goal.slot_at-requires
slot_at-requires g c =
    let s = c.self.inside in
    let within = rw (← c.self.view_is) at c.requires in
    omega (arith, within, length-checkpoints_in (state_in s.space s.saved.items) s.space.store s.ring.order)

pub index-requires : goal.index-requires
index-requires g c =
    let s = c.self.inside in
    omega (arith, (saved_slot s.space.store s.ring c.args.index c.slot_at.result c.self.invariant.0.line_is c.slot_at.ensures).0, c.self.invariant.0.each_slot, s.saved.ok.0)

pub returns : goal.returns
returns g c =
    let s = c.self.inside in
    let near : c.slot_at.result < length s.saved.items = omega (arith, (saved_slot s.space.store s.ring c.args.index c.slot_at.result c.self.invariant.0.line_is c.slot_at.ensures).0, c.self.invariant.0.each_slot) in
    record {
      taken = subst (λ (state : CpuState _). IsSomeAnd (slice_get state.slots.saved c.args.index) (λ one. c.index.result.now.marks.taken ≡ one.state.guest.machine.taken)) c.self.view_is
          (marks_at s.space s.saved.items s.ring c.args.index c.slot_at.result c.index.result.now c.self.invariant.0.line_is c.slot_at.ensures
          (slice_get_read s.saved.items (length s.saved.items) c.slot_at.result c.index.result.now refl near c.index.ensures)
          (λ o. IsSomeAnd o (λ one. c.index.result.now.marks.taken ≡ one.state.guest.machine.taken)) (λ one same. ap (λ (marks : Marks). marks.taken) same));
    }
