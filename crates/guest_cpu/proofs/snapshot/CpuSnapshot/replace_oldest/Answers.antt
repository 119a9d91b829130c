use Rattle.guest_cpu.proofs.Terms.{ap, arith, length, set, ◌-◌, ◌<◌, ◌∙◌, ◌∷◌, ◌≡◌, length-take-le, slice_get_within, take, saved_slot, line_of, with_newest, without_oldest, CpuState}
use Rattle.guest_cpu.proofs.SavedLemmas.{HasSlots, slots_in, order_few, has_frames, ends_at, cpu_saves_over, cpu_sound}
use Rattle.guest_cpu.proofs.snapshot.CpuSnapshot.replace_oldest.Given as given
use Rattle.guest_cpu.proofs.snapshot.CpuSnapshot.replace_oldest.Goals as goal
use Rattle.guest_cpu.proofs.snapshot.CpuSnapshot.replace_oldest.Goals.{After-push}

pub save_over_by-requires-clause-room : goal.save_over_by-requires-clause-room
save_over_by-requires-clause-room g c =
    let s = c.self.inside in
    has_frames s.core s.space s.saved.items s.ring c.sound.ensures c.self.invariant.0 (rw (← c.self.view_is) at c.requires.room)

pub index_mut-requires : goal.index_mut-requires
index_mut-requires g c =
    let s = c.self.inside in
    omega (arith, (saved_slot s.space.store s.ring (length s.ring.order - 1) c.oldest-slot.result c.self.invariant.0.line_is c.oldest-slot.ensures).0, c.self.invariant.0.each_slot, s.saved.ok.0)

pub copy_from-requires : goal.copy_from-requires
copy_from-requires g c =
    let s = c.self.inside in
    ends_at s.core s.space s.saved.items s.ring c.oldest-slot.result c.index_mut.result.now c.self.invariant.0
    (saved_slot s.space.store s.ring (length s.ring.order - 1) c.oldest-slot.result c.self.invariant.0.line_is c.oldest-slot.ensures).0 c.index_mut.ensures.value

pub push-requires : goal.push-requires
push-requires g c =
    let s = c.self.inside in
    let near : length s.ring.order - 1 < length s.ring.order = slice_get_within s.ring.order (length s.ring.order - 1) c.oldest-slot.result c.oldest-slot.ensures in
    let long : length (take (length s.ring.order - 1) s.ring.order) ≡ length s.ring.order - 1 = length-take-le (length s.ring.order - 1) s.ring.order (omega arith) in
    rw c.drop_oldest.ensures (omega (arith, near, long, order_few s.core s.space s.saved.items s.ring c.self.invariant.0, c.self.invariant.0.few))

saved : (g : given.Over) (c : After-push g) → HasSlots c.self.inside.core c.save_over_by.new.self (set c.self.inside.saved.items c.oldest-slot.result c.copy_from.new.self) c.push.new.self
    (with_newest (without_oldest (slots_in c.self.inside.core c.self.inside.space c.self.inside.saved.items c.self.inside.ring)))
saved g c =
    let s = c.self.inside in
    cpu_saves_over s.core s.space s.saved.items s.ring c.oldest-slot.result c.self.invariant.0 c.save_over_by.new.self (set s.saved.items c.oldest-slot.result c.copy_from.new.self) c.push.new.self
    (rw (← c.self.view_is) at c.requires.newest) c.oldest-slot.ensures c.save_over_by.ensures.saved (ap (set s.saved.items c.oldest-slot.result) c.copy_from.ensures)
    (c.push.ensures ∙ ap (λ line. line_of (c.oldest-slot.result ∷ line.order) 0) c.drop_oldest.ensures)

pub invariant_of-self : goal.invariant_of-self
invariant_of-self g c = ((saved g c).0, c.save_over_by.ensures.holds)

pub returns-clause-saved : goal.returns-clause-saved
returns-clause-saved g c = (saved g c).1 ∙ ap (λ (state : CpuState _). with_newest (without_oldest state.slots)) c.self.view_is

pub returns-clause-sound : goal.returns-clause-sound
returns-clause-sound g c = cpu_sound c.self.inside.core c.save_over_by.new.self (set c.self.inside.saved.items c.oldest-slot.result c.copy_from.new.self) c.push.new.self (saved g c).0
