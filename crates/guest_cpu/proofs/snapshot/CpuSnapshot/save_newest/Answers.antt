use Rattle.guest_cpu.proofs.Terms.{ap, arith, length, set, ◌∙◌, line_hasnt, with_newest, CpuState}
use Rattle.guest_cpu.proofs.SavedLemmas.{HasSlots, slots_in, free_near, has_frames, ends_at, cpu_saves, cpu_sound}
use Rattle.guest_cpu.proofs.snapshot.CpuSnapshot.save_newest.Given as given
use Rattle.guest_cpu.proofs.snapshot.CpuSnapshot.save_newest.Goals as goal
use Rattle.guest_cpu.proofs.snapshot.CpuSnapshot.save_newest.Goals.{After-push}

pub save_by-requires-clause-there : goal.save_by-requires-clause-there
save_by-requires-clause-there g c =
    let s = c.self.inside in
    free_near s.space s.saved.items s.ring c.free_slot-slot.result (rw (← c.self.view_is) at c.requires.few) c.free_slot-slot.ensures.low

pub save_by-requires-clause-room : goal.save_by-requires-clause-room
save_by-requires-clause-room g c =
    let s = c.self.inside in
    has_frames s.core s.space s.saved.items s.ring c.sound.ensures c.self.invariant.0 (rw (← c.self.view_is) at c.requires.room)

pub index_mut-requires : goal.index_mut-requires
index_mut-requires g c =
    let s = c.self.inside in
    omega (arith, free_near s.space s.saved.items s.ring c.free_slot-slot.result (rw (← c.self.view_is) at c.requires.few) c.free_slot-slot.ensures.low, c.self.invariant.0.each_slot, s.saved.ok.0)

pub copy_from-requires : goal.copy_from-requires
copy_from-requires g c =
    let s = c.self.inside in
    ends_at s.core s.space s.saved.items s.ring c.free_slot-slot.result c.index_mut.result.now c.self.invariant.0
    (free_near s.space s.saved.items s.ring c.free_slot-slot.result (rw (← c.self.view_is) at c.requires.few) c.free_slot-slot.ensures.low) c.index_mut.ensures.value

pub push-requires : goal.push-requires
push-requires g c =
    let s = c.self.inside in
    omega (arith, free_near s.space s.saved.items s.ring (length s.ring.order) (rw (← c.self.view_is) at c.requires.few) (omega arith), c.self.invariant.0.few)

saved : (g : given.Over) (c : After-push g) → HasSlots c.self.inside.core c.save_by.new.self (set c.self.inside.saved.items c.free_slot-slot.result c.copy_from.new.self) c.push.new.self
    (with_newest (slots_in c.self.inside.core c.self.inside.space c.self.inside.saved.items c.self.inside.ring))
saved g c =
    let s = c.self.inside in
    cpu_saves s.core s.space s.saved.items s.ring c.free_slot-slot.result c.self.invariant.0 c.save_by.new.self (set s.saved.items c.free_slot-slot.result c.copy_from.new.self) c.push.new.self
    (rw (← c.self.view_is) at c.requires.newest)
    (free_near s.space s.saved.items s.ring c.free_slot-slot.result (rw (← c.self.view_is) at c.requires.few) c.free_slot-slot.ensures.low)
    (line_hasnt s.space.store s.ring c.free_slot-slot.result c.self.invariant.0.line_is c.free_slot-slot.ensures.free)
    c.save_by.ensures.saved (ap (set s.saved.items c.free_slot-slot.result) c.copy_from.ensures) c.push.ensures

pub invariant_of-self : goal.invariant_of-self
invariant_of-self g c = ((saved g c).0, c.save_by.ensures.holds)

pub returns-clause-saved : goal.returns-clause-saved
returns-clause-saved g c = (saved g c).1 ∙ ap (λ (state : CpuState _). with_newest state.slots) c.self.view_is

pub returns-clause-sound : goal.returns-clause-sound
returns-clause-sound g c = cpu_sound c.self.inside.core c.save_by.new.self (set c.self.inside.saved.items c.free_slot-slot.result c.copy_from.new.self) c.push.new.self (saved g c).0
