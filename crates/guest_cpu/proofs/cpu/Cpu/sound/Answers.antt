use Rattle.guest_cpu.proofs.Terms.{length, refl, subst, ◌≡◌, line_flags, count_true, AreSound, IsLaidOut, AreCounted, marks_of, CpuState}
use Rattle.guest_cpu.proofs.SavedLemmas.{cpu_sound}
use Rattle.guest_cpu.proofs.cpu.Cpu.sound.Goals as goal

pub returns-clause-pages : goal.returns-clause-pages
returns-clause-pages g c =
    subst (λ (state : CpuState _). length state.written ≡ state.slots.pages) c.self.view_is (line_flags c.self.inside.space.store c.self.inside.ring c.sound.ensures.store c.self.invariant.0.line_is)

pub returns-clause-written : goal.returns-clause-written
returns-clause-written g c = subst (λ (state : CpuState _). count_true state.written ≡ state.slots.written) c.self.view_is refl

pub returns-clause-laid_out : goal.returns-clause-laid_out
returns-clause-laid_out g c =
    subst (λ (state : CpuState _). IsLaidOut state.slots.live.guest) c.self.view_is (record { sound = c.sound-2.ensures.heap; start = refl; end = refl; live = refl })

pub returns-clause-ring : goal.returns-clause-ring
returns-clause-ring g c =
    subst (λ (state : CpuState _). AreSound state.slots) c.self.view_is (cpu_sound c.self.inside.core c.self.inside.space c.self.inside.saved.items c.self.inside.ring c.self.invariant.0)

pub returns-clause-counted : goal.returns-clause-counted
returns-clause-counted g c =
    subst (λ (state : CpuState _). AreCounted (marks_of state.slots.live)) c.self.view_is
    (record { taken = c.self.invariant.0.counts.taken; since = c.self.invariant.0.counts.since; choices = c.self.invariant.0.counts.choices; sends = c.self.invariant.0.counts.sends })
