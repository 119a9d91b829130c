use Rattle.guest_cpu.proofs.Terms.{ap, ◌∙◌, ◌≡◌, written_pages, without_newer, windows_released, CpuState}
use Rattle.guest_cpu.proofs.SavedLemmas.{HasSlots, slots_in, cpu_drops_newest, cpu_sound}
use Rattle.guest_cpu.proofs.snapshot.CpuSnapshot.drop_newest.Given as given
use Rattle.guest_cpu.proofs.snapshot.CpuSnapshot.drop_newest.Goals as goal
use Rattle.guest_cpu.proofs.snapshot.CpuSnapshot.drop_newest.Goals.{After-drop_newest}

left : (g : given.Over) (c : After-drop_newest g) → HasSlots c.self.inside.core c.release.new.self c.self.inside.saved.items c.drop_newest.new.self
    (without_newer 1 (slots_in c.self.inside.core c.self.inside.space c.self.inside.saved.items c.self.inside.ring))
    × (written_pages c.release.new.self.store c.drop_newest.new.self ≡ written_pages c.self.inside.space.store c.self.inside.ring)
left g c =
    let s = c.self.inside in
    cpu_drops_newest s.core s.space s.saved.items s.ring c.slot_at.result c.self.invariant.0 c.release.new.self c.drop_newest.new.self
    (rw (← c.self.view_is) at c.requires) c.slot_at.ensures c.release.ensures.released c.drop_newest.ensures

pub invariant_of-self : goal.invariant_of-self
invariant_of-self g c = ((left g c).0.0, windows_released c.self.inside.space c.release.new.self c.slot_at.result c.self.inside.windows c.release.ensures.released c.self.invariant.1)

pub returns-clause-saved : goal.returns-clause-saved
returns-clause-saved g c = (left g c).0.1 ∙ ap (λ (state : CpuState _). without_newer 1 state.slots) c.self.view_is

pub returns-clause-written : goal.returns-clause-written
returns-clause-written g c = (left g c).1 ∙ ap (λ (state : CpuState _). state.written) c.self.view_is

pub returns-clause-sound : goal.returns-clause-sound
returns-clause-sound g c = cpu_sound c.self.inside.core c.release.new.self c.self.inside.saved.items c.drop_newest.new.self (left g c).0.0
