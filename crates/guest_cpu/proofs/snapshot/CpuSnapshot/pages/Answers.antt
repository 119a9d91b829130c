use Rattle.guest_cpu.proofs.Terms.{subst, AreSound, CpuState}
use Rattle.guest_cpu.proofs.SavedLemmas.{cpu_sound}
use Rattle.guest_cpu.proofs.snapshot.CpuSnapshot.pages.Goals as goal

pub returns-clause-sound : goal.returns-clause-sound
returns-clause-sound g c =
    subst (λ (state : CpuState _). AreSound state.slots) c.self.view_is (cpu_sound c.self.inside.core c.self.inside.space c.self.inside.saved.items c.self.inside.ring c.self.invariant.0)
