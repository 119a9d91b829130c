use Rattle.guest_cpu.proofs.Terms.{ap, length, subst, sym, ◌∙◌, length-checkpoints_in, AreSound, CpuState, state_in}
use Rattle.guest_cpu.proofs.SavedLemmas.{cpu_sound}
use Rattle.guest_cpu.proofs.snapshot.CpuSnapshot.checkpoints.Goals as goal

pub returns-clause-checkpoints : goal.returns-clause-checkpoints
returns-clause-checkpoints g c =
    let s = c.self.inside in
    c.len.ensures ∙ sym (length-checkpoints_in (state_in s.space s.saved.items) s.space.store s.ring.order) ∙ ap (λ (state : CpuState _). length state.slots.saved) c.self.view_is

pub returns-clause-sound : goal.returns-clause-sound
returns-clause-sound g c =
    subst (λ (state : CpuState _). AreSound state.slots) c.self.view_is (cpu_sound c.self.inside.core c.self.inside.space c.self.inside.saved.items c.self.inside.ring c.self.invariant.0)
