use Rattle.std.proofs.Common.{Ok}
use Rattle.guest_cpu.proofs.Terms.{None, ap, arith, refl, subst, sym, ◌∙◌, ◌≡◌, limits_of, turn, CpuState, cpu_state, live_of, with_live, Breaks, Reaches}
use Rattle.guest_cpu.specs.declared.event.Event.TheVariants as event
use Rattle.guest_cpu.proofs.CpuLemmas.{goes_none, lives_by, goes_on, reaches, breaks, same_cpu}
use Rattle.guest_cpu.proofs.QuietLemmas.{goes_within, ran_counts}
use Rattle.guest_cpu.proofs.cpu.Cpu.run_to_event.Goals as goal

pub advance-requires-clause-heap : goal.advance-requires-clause-heap
advance-requires-clause-heap g c = (goes_within c.args.budget _ _ _ _ _ _ _ _ _ _ _ _ c.run.invariant.0 c.go_quietly.ensures.ran c.saturating_sub-most.ensures).fits.heap

pub advance-requires-clause-counts : goal.advance-requires-clause-counts
advance-requires-clause-counts g c =
    let room = rw (← c.self.view_is) at c.requires.room in
    let counts = ran_counts _ _ _ _ _ _ c.go_quietly.ensures.ran in
    record {
      counted = (goes_within c.args.budget _ _ _ _ _ _ _ _ _ _ _ _ c.run.invariant.0 c.go_quietly.ensures.ran c.saturating_sub-most.ensures).fits.counts;
      room = omega (arith, room, counts.few, counts.steps, c.saturating_sub-most.ensures, c.run.invariant.5, c.run.invariant.6);
    }

pub run-preserved : goal.run-preserved
run-preserved g c =
    let rises = rw c.in-Ok-None.field-0-is at c.in-Ok-None.ensures.keeps.rises in
    let counts = ran_counts _ _ _ _ _ _ c.go_quietly.ensures.ran in
    let within = c.advance.ensures.keeps.within (c.in-Ok-None.is ∙ ap (λ event. Ok event) c.in-Ok-None.field-0-is) in (
      goes_on _ _ _ _ _ _ _ _ _ _ (goes_within c.args.budget _ _ _ _ _ _ _ _ _ _ _ _ c.run.invariant.0 c.go_quietly.ensures.ran c.saturating_sub-most.ensures) (rw c.in-Ok-None.field-0-is at c.in-Ok-None.ensures.turned) c.advance.ensures.keeps.keeps,
      c.run.invariant.1,
      c.run.invariant.2,
      c.run.invariant.3,
      omega (arith, c.advance.ensures.counted, c.go_quietly.ensures.counted, c.run.invariant.4),
      omega (arith, rises.0, rises.1, counts.since, counts.steps, c.run.invariant.5),
      omega (arith, rises.1, within, counts.since, counts.steps, c.run.invariant.5),
      rises.2 ∙ counts.ended ∙ c.run.invariant.7,
      c.advance.ensures.holds,
    )

pub invariant_of-self : goal.invariant_of-self
invariant_of-self g c = ((reaches _ _ _ _ _ _ _ _ _ _ c.in-Ok-Some.event (goes_within c.args.budget _ _ _ _ _ _ _ _ _ _ _ _ c.run.invariant.0 c.go_quietly.ensures.ran c.saturating_sub-most.ensures) (rw c.in-Ok-Some.field-0-is at c.in-Ok-Some.ensures.turned) c.advance.ensures.keeps.keeps).2, c.advance.ensures.holds)

pub returns-in-Ok-Some-clause-event : goal.returns-in-Ok-Some-clause-event
returns-in-Ok-Some-clause-event g c =
    subst (λ (state : CpuState _). Reaches (turn (limits_of c.args.budget (g.R.AccessRule.rule state.rule)) c.args.env) state.base (live_of state) c.in-Ok-Some.event
    (live_of (cpu_state c.run.self-inside.rule c.advance.new.core c.advance.new.space c.run.self-inside.saved.items c.run.self-inside.ring)))
    (same_cpu _ _ _ c.self.inside.space _ _ _ _ c.run.invariant.3 c.run.invariant.1 c.run.invariant.2 ∙ c.self.view_is)
    (reaches _ _ _ _ _ _ _ _ _ _ c.in-Ok-Some.event (goes_within c.args.budget _ _ _ _ _ _ _ _ _ _ _ _ c.run.invariant.0 c.go_quietly.ensures.ran c.saturating_sub-most.ensures) (rw c.in-Ok-Some.field-0-is at c.in-Ok-Some.ensures.turned) c.advance.ensures.keeps.keeps).0

pub returns-in-Ok-Some-clause-kept : goal.returns-in-Ok-Some-clause-kept
returns-in-Ok-Some-clause-kept g c =
    subst (λ (state : CpuState _). cpu_state c.run.self-inside.rule c.advance.new.core c.advance.new.space c.run.self-inside.saved.items c.run.self-inside.ring
    ≡ with_live (live_of (cpu_state c.run.self-inside.rule c.advance.new.core c.advance.new.space c.run.self-inside.saved.items c.run.self-inside.ring)) state)
    (same_cpu _ _ _ c.self.inside.space _ _ _ _ c.run.invariant.3 c.run.invariant.1 c.run.invariant.2 ∙ c.self.view_is)
    (reaches _ _ _ _ _ _ _ _ _ _ c.in-Ok-Some.event (goes_within c.args.budget _ _ _ _ _ _ _ _ _ _ _ _ c.run.invariant.0 c.go_quietly.ensures.ran c.saturating_sub-most.ensures) (rw c.in-Ok-Some.field-0-is at c.in-Ok-Some.ensures.turned) c.advance.ensures.keeps.keeps).1

pub returns-in-Ok-Some-clause-lives : goal.returns-in-Ok-Some-clause-lives
returns-in-Ok-Some-clause-lives g c =
    lives_by c.in-Ok-Some.event c.go_quietly.new.core.ended c.advance.new.core.ended (rw c.in-Ok-Some.field-0-is at c.in-Ok-Some.ensures.keeps.lasts)
    ((ran_counts _ _ _ _ _ _ c.go_quietly.ensures.ran).ended ∙ c.run.invariant.7 ∙ subst (λ (state : CpuState _). state.slots.live.ended ≡ None) (sym c.self.view_is) c.requires.lives)

pub returns-in-Err-clause-lives : goal.returns-in-Err-clause-lives
returns-in-Err-clause-lives g c = c.in-Err.ensures.keeps.lasts ∙ (ran_counts _ _ _ _ _ _ c.go_quietly.ensures.ran).ended ∙ c.run.invariant.7 ∙ subst (λ (state : CpuState _). state.slots.live.ended ≡ None) (sym c.self.view_is) c.requires.lives

pub invariant_of-self-in-Err : goal.invariant_of-self-in-Err
invariant_of-self-in-Err g c = ((breaks event.Emits _ _ _ _ _ _ _ _ _ _ (goes_within c.args.budget _ _ _ _ _ _ _ _ _ _ _ _ c.run.invariant.0 c.go_quietly.ensures.ran c.saturating_sub-most.ensures) c.in-Err.ensures.turned.0 c.in-Err.ensures.turned.1 c.in-Err.ensures.turned.2).2, c.advance.ensures.holds)

pub returns-in-Err-clause-event : goal.returns-in-Err-clause-event
returns-in-Err-clause-event g c =
    subst (λ (state : CpuState _). Breaks event.Emits (turn (limits_of c.args.budget (g.R.AccessRule.rule state.rule)) c.args.env) state.base (live_of state)
    (live_of (cpu_state c.run.self-inside.rule c.advance.new.core c.advance.new.space c.run.self-inside.saved.items c.run.self-inside.ring)))
    (same_cpu _ _ _ c.self.inside.space _ _ _ _ c.run.invariant.3 c.run.invariant.1 c.run.invariant.2 ∙ c.self.view_is)
    (breaks event.Emits _ _ _ _ _ _ _ _ _ _ (goes_within c.args.budget _ _ _ _ _ _ _ _ _ _ _ _ c.run.invariant.0 c.go_quietly.ensures.ran c.saturating_sub-most.ensures) c.in-Err.ensures.turned.0 c.in-Err.ensures.turned.1 c.in-Err.ensures.turned.2).0

pub returns-in-Err-clause-kept : goal.returns-in-Err-clause-kept
returns-in-Err-clause-kept g c =
    subst (λ (state : CpuState _). cpu_state c.run.self-inside.rule c.advance.new.core c.advance.new.space c.run.self-inside.saved.items c.run.self-inside.ring
    ≡ with_live (live_of (cpu_state c.run.self-inside.rule c.advance.new.core c.advance.new.space c.run.self-inside.saved.items c.run.self-inside.ring)) state)
    (same_cpu _ _ _ c.self.inside.space _ _ _ _ c.run.invariant.3 c.run.invariant.1 c.run.invariant.2 ∙ c.self.view_is)
    (breaks event.Emits _ _ _ _ _ _ _ _ _ _ (goes_within c.args.budget _ _ _ _ _ _ _ _ _ _ _ _ c.run.invariant.0 c.go_quietly.ensures.ran c.saturating_sub-most.ensures) c.in-Err.ensures.turned.0 c.in-Err.ensures.turned.1 c.in-Err.ensures.turned.2).1

pub run-init : goal.run-init
run-init g c = (goes_none _ _ _ _ _ _ c.self.invariant.0 c.sound.ensures, refl, refl, refl, refl, omega arith, omega arith, refl, c.self.invariant.1)
