use Rattle.guest_cpu.proofs.Terms.{ap, subst, ◌∙◌, line_used, AreSound, used_pages, flat, standing, CpuState, state_in}
use Rattle.guest_cpu.proofs.SavedLemmas.{cpu_sound}
use Rattle.guest_cpu.proofs.snapshot.CpuSnapshot.used.Goals as goal

pub returns-clause-used : goal.returns-clause-used
returns-clause-used g c =
    let s = c.self.inside in
    c.used.ensures.used
    ∙ line_used (state_in s.space s.saved.items) (standing s.core (flat s.space)) s.space.store s.ring c.used.ensures.lawful.store c.self.invariant.0.line_is
    ∙ ap (λ (state : CpuState _). used_pages state.slots) c.self.view_is

pub returns-clause-sound : goal.returns-clause-sound
returns-clause-sound g c =
    subst (λ (state : CpuState _). AreSound state.slots) c.self.view_is (cpu_sound c.self.inside.core c.self.inside.space c.self.inside.saved.items c.self.inside.ring c.self.invariant.0)
