use Rattle.guest_cpu.proofs.Terms.{IsSomeAnd, Some, ap, arith, length, refl, subst, sym, ◌<◌, ◌∙◌, ◌≡◌, slice_get_read, slice_get, length-checkpoints_in, saved_slot, restored, CpuState, IsCpu, state_in}
use Rattle.guest_cpu.proofs.SavedLemmas.{slots_in, cpu_restores, cpu_sound}
use Rattle.guest_cpu.proofs.snapshot.CpuSnapshot.restore.Given as given
use Rattle.guest_cpu.proofs.snapshot.CpuSnapshot.restore.Goals as goal
use Rattle.guest_cpu.proofs.snapshot.CpuSnapshot.restore.Goals.{After-stand_on}

pub slot_at-slot-requires : goal.slot_at-slot-requires
slot_at-slot-requires g c =
    let s = c.self.inside in
    let within = rw (← c.self.view_is) at c.requires in
    omega (arith, within, length-checkpoints_in (state_in s.space s.saved.items) s.space.store s.ring.order)

pub restore-requires : goal.restore-requires
restore-requires g c = (saved_slot c.self.inside.space.store c.self.inside.ring c.args.index c.slot_at-slot.result c.self.invariant.0.line_is c.slot_at-slot.ensures).1

back : (g : given.Over) (c : After-stand_on g) → IsCpu c.copy_from.new.self c.restore.new.self c.self.inside.saved.items c.stand_on.new.self
    × IsSomeAnd (slice_get (slots_in c.self.inside.core c.self.inside.space c.self.inside.saved.items c.self.inside.ring).saved c.args.index)
    (λ one. slots_in c.copy_from.new.self c.restore.new.self c.self.inside.saved.items c.stand_on.new.self ≡ restored c.args.index one (slots_in c.self.inside.core c.self.inside.space c.self.inside.saved.items c.self.inside.ring))
back g c =
    let s = c.self.inside in
    let slot = c.slot_at-slot.result in
    let near : slot < length s.saved.items = omega (arith, (saved_slot s.space.store s.ring c.args.index slot c.self.invariant.0.line_is c.slot_at-slot.ensures).0, c.self.invariant.0.each_slot) in
    let there : slice_get s.saved.items slot ≡ Some c.copy_from.new.self = slice_get_read s.saved.items (length s.saved.items) slot c.index.result.now refl near c.index.ensures ∙ ap (λ one. Some one) (sym c.copy_from.ensures) in
    cpu_restores s.core c.copy_from.new.self s.space c.restore.new.self s.saved.items s.ring c.stand_on.new.self c.args.index slot c.self.invariant.0 c.slot_at-slot.ensures c.restore.ensures.restored.store_is there c.stand_on.ensures

pub invariant_of-self : goal.invariant_of-self
invariant_of-self g c = ((back g c).0, c.forget.ensures _)

pub returns-clause-restored : goal.returns-clause-restored
returns-clause-restored g c =
    subst (λ (state : CpuState _). IsSomeAnd (slice_get state.slots.saved c.args.index) (λ one. slots_in c.copy_from.new.self c.restore.new.self c.self.inside.saved.items c.stand_on.new.self ≡ restored c.args.index one state.slots)) c.self.view_is (back g c).1

pub returns-clause-sound : goal.returns-clause-sound
returns-clause-sound g c = cpu_sound c.copy_from.new.self c.restore.new.self c.self.inside.saved.items c.stand_on.new.self (back g c).0
