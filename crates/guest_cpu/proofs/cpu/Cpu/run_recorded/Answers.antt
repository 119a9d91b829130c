use Rattle.guest_cpu.proofs.Terms.{None, arith, refl, subst, sym, ◌∙◌, ◌≡◌, recorded, CpuState, cpu_state, live_of, with_live, Breaks, Reaches}
use Rattle.guest_cpu.specs.declared.event.Question.TheVariants as question
use Rattle.guest_cpu.proofs.CpuLemmas.{goes_none, recorded_lives_by, goes_on, reaches, breaks, same_cpu}
use Rattle.guest_cpu.proofs.QuietLemmas.{goes_recorded, ran_counts}
use Rattle.guest_cpu.proofs.cpu.Cpu.run_recorded.Goals as goal

pub advance_as_recorded-requires : goal.advance_as_recorded-requires
advance_as_recorded-requires g c = record { counts = (goes_recorded c.args.until _ _ _ _ _ _ _ _ _ _ c.run.invariant.0 c.go_quietly.ensures.ran c.saturating_sub-most.ensures).fits.counts }

pub run-preserved : goal.run-preserved
run-preserved g c =
    let rises = rw c.in-Ok-None.field-0-is at c.in-Ok-None.ensures.rises in (
      goes_on _ _ _ _ _ _ _ _ _ _ (goes_recorded c.args.until _ _ _ _ _ _ _ _ _ _ c.run.invariant.0 c.go_quietly.ensures.ran c.saturating_sub-most.ensures) (rw c.in-Ok-None.field-0-is at c.in-Ok-None.ensures.turned) c.advance_as_recorded.ensures.keeps,
      c.run.invariant.1,
      c.run.invariant.2,
      c.run.invariant.3,
      omega (arith, c.advance_as_recorded.ensures.counted, c.go_quietly.ensures.counted, c.run.invariant.4),
      rises.2 ∙ (ran_counts _ _ _ _ _ _ c.go_quietly.ensures.ran).ended ∙ c.run.invariant.5,
      c.run.invariant.6,
    )

pub invariant_of-self : goal.invariant_of-self
invariant_of-self g c = ((reaches _ _ _ _ _ _ _ _ _ _ c.in-Ok-Some.question (goes_recorded c.args.until _ _ _ _ _ _ _ _ _ _ c.run.invariant.0 c.go_quietly.ensures.ran c.saturating_sub-most.ensures) (rw c.in-Ok-Some.field-0-is at c.in-Ok-Some.ensures.turned) c.advance_as_recorded.ensures.keeps).2, c.run.invariant.6 _)

pub returns-in-Ok-Some-clause-question : goal.returns-in-Ok-Some-clause-question
returns-in-Ok-Some-clause-question g c =
    subst (λ (state : CpuState _). Reaches (recorded c.args.until) state.base (live_of state) c.in-Ok-Some.question
    (live_of (cpu_state c.run.self-inside.rule c.advance_as_recorded.new.core c.advance_as_recorded.new.space c.run.self-inside.saved.items c.run.self-inside.ring)))
    (same_cpu _ _ _ c.self.inside.space _ _ _ _ c.run.invariant.3 c.run.invariant.1 c.run.invariant.2 ∙ c.self.view_is)
    (reaches _ _ _ _ _ _ _ _ _ _ c.in-Ok-Some.question (goes_recorded c.args.until _ _ _ _ _ _ _ _ _ _ c.run.invariant.0 c.go_quietly.ensures.ran c.saturating_sub-most.ensures) (rw c.in-Ok-Some.field-0-is at c.in-Ok-Some.ensures.turned) c.advance_as_recorded.ensures.keeps).0

pub returns-in-Ok-Some-clause-kept : goal.returns-in-Ok-Some-clause-kept
returns-in-Ok-Some-clause-kept g c =
    subst (λ (state : CpuState _). cpu_state c.run.self-inside.rule c.advance_as_recorded.new.core c.advance_as_recorded.new.space c.run.self-inside.saved.items c.run.self-inside.ring
    ≡ with_live (live_of (cpu_state c.run.self-inside.rule c.advance_as_recorded.new.core c.advance_as_recorded.new.space c.run.self-inside.saved.items c.run.self-inside.ring)) state)
    (same_cpu _ _ _ c.self.inside.space _ _ _ _ c.run.invariant.3 c.run.invariant.1 c.run.invariant.2 ∙ c.self.view_is)
    (reaches _ _ _ _ _ _ _ _ _ _ c.in-Ok-Some.question (goes_recorded c.args.until _ _ _ _ _ _ _ _ _ _ c.run.invariant.0 c.go_quietly.ensures.ran c.saturating_sub-most.ensures) (rw c.in-Ok-Some.field-0-is at c.in-Ok-Some.ensures.turned) c.advance_as_recorded.ensures.keeps).1

pub returns-in-Ok-Some-clause-lives : goal.returns-in-Ok-Some-clause-lives
returns-in-Ok-Some-clause-lives g c =
    recorded_lives_by c.in-Ok-Some.question c.go_quietly.new.core.ended c.advance_as_recorded.new.core.ended (rw c.in-Ok-Some.field-0-is at c.in-Ok-Some.ensures.lasts)
    ((ran_counts _ _ _ _ _ _ c.go_quietly.ensures.ran).ended ∙ c.run.invariant.5 ∙ subst (λ (state : CpuState _). state.slots.live.ended ≡ None) (sym c.self.view_is) c.requires.lives)

pub returns-in-Err-clause-lives : goal.returns-in-Err-clause-lives
returns-in-Err-clause-lives g c = c.in-Err.ensures.lasts ∙ (ran_counts _ _ _ _ _ _ c.go_quietly.ensures.ran).ended ∙ c.run.invariant.5 ∙ subst (λ (state : CpuState _). state.slots.live.ended ≡ None) (sym c.self.view_is) c.requires.lives

pub invariant_of-self-in-Err : goal.invariant_of-self-in-Err
invariant_of-self-in-Err g c = ((breaks question.Emits _ _ _ _ _ _ _ _ _ _ (goes_recorded c.args.until _ _ _ _ _ _ _ _ _ _ c.run.invariant.0 c.go_quietly.ensures.ran c.saturating_sub-most.ensures) c.in-Err.ensures.turned.0 c.in-Err.ensures.turned.1 c.in-Err.ensures.turned.2).2, c.run.invariant.6 _)

pub returns-in-Err-clause-question : goal.returns-in-Err-clause-question
returns-in-Err-clause-question g c =
    subst (λ (state : CpuState _). Breaks question.Emits (recorded c.args.until) state.base (live_of state)
    (live_of (cpu_state c.run.self-inside.rule c.advance_as_recorded.new.core c.advance_as_recorded.new.space c.run.self-inside.saved.items c.run.self-inside.ring)))
    (same_cpu _ _ _ c.self.inside.space _ _ _ _ c.run.invariant.3 c.run.invariant.1 c.run.invariant.2 ∙ c.self.view_is)
    (breaks question.Emits _ _ _ _ _ _ _ _ _ _ (goes_recorded c.args.until _ _ _ _ _ _ _ _ _ _ c.run.invariant.0 c.go_quietly.ensures.ran c.saturating_sub-most.ensures) c.in-Err.ensures.turned.0 c.in-Err.ensures.turned.1 c.in-Err.ensures.turned.2).0

pub returns-in-Err-clause-kept : goal.returns-in-Err-clause-kept
returns-in-Err-clause-kept g c =
    subst (λ (state : CpuState _). cpu_state c.run.self-inside.rule c.advance_as_recorded.new.core c.advance_as_recorded.new.space c.run.self-inside.saved.items c.run.self-inside.ring
    ≡ with_live (live_of (cpu_state c.run.self-inside.rule c.advance_as_recorded.new.core c.advance_as_recorded.new.space c.run.self-inside.saved.items c.run.self-inside.ring)) state)
    (same_cpu _ _ _ c.self.inside.space _ _ _ _ c.run.invariant.3 c.run.invariant.1 c.run.invariant.2 ∙ c.self.view_is)
    (breaks question.Emits _ _ _ _ _ _ _ _ _ _ (goes_recorded c.args.until _ _ _ _ _ _ _ _ _ _ c.run.invariant.0 c.go_quietly.ensures.ran c.saturating_sub-most.ensures) c.in-Err.ensures.turned.0 c.in-Err.ensures.turned.1 c.in-Err.ensures.turned.2).1

pub run-init : goal.run-init
run-init g c = (goes_none _ _ _ _ _ _ c.self.invariant.0 c.sound.ensures, refl, refl, refl, refl, refl, c.forget.ensures)

pub go_quietly-requires-clause-holds : goal.go_quietly-requires-clause-holds
go_quietly-requires-clause-holds g c = c.none-windows.ensures c.run.self-inside.space
