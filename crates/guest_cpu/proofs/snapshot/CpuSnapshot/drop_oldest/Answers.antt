use Rattle.guest_cpu.proofs.Terms.{ap, ◌∙◌, without_oldest, windows_released, CpuState}
use Rattle.guest_cpu.proofs.SavedLemmas.{HasSlots, slots_in, cpu_drops_oldest, cpu_sound}
use Rattle.guest_cpu.proofs.snapshot.CpuSnapshot.drop_oldest.Given as given
use Rattle.guest_cpu.proofs.snapshot.CpuSnapshot.drop_oldest.Goals as goal
use Rattle.guest_cpu.proofs.snapshot.CpuSnapshot.drop_oldest.Goals.{After-drop_oldest}

left : (g : given.Over) (c : After-drop_oldest g) → HasSlots c.self.inside.core c.release.new.self c.self.inside.saved.items c.drop_oldest.new.self
    (without_oldest (slots_in c.self.inside.core c.self.inside.space c.self.inside.saved.items c.self.inside.ring))
left g c =
    let s = c.self.inside in
    cpu_drops_oldest s.core s.space s.saved.items s.ring c.oldest.result c.self.invariant.0 c.release.new.self c.drop_oldest.new.self
    (rw (← c.self.view_is) at c.requires.newest) c.oldest.ensures c.release.ensures.released c.drop_oldest.ensures

pub invariant_of-self : goal.invariant_of-self
invariant_of-self g c = ((left g c).0, windows_released c.self.inside.space c.release.new.self c.oldest.result c.self.inside.windows c.release.ensures.released c.self.invariant.1)

pub returns-clause-saved : goal.returns-clause-saved
returns-clause-saved g c = (left g c).1 ∙ ap (λ (state : CpuState _). without_oldest state.slots) c.self.view_is

pub returns-clause-sound : goal.returns-clause-sound
returns-clause-sound g c = cpu_sound c.self.inside.core c.release.new.self c.self.inside.saved.items c.drop_oldest.new.self (left g c).0
