use Rattle.guest_cpu.proofs.Terms.{Some, ap, sym, ◌∙◌, flat, machine_of}
use Rattle.guest_cpu.proofs.MeetLemmas.{still, is_at, meets_unfetched, met_stays}
use Rattle.guest_cpu.proofs.StepTurns.{stepped, step_failed}
use Rattle.guest_cpu.proofs.turning.meet.Goals as goal

pub returns-in-Err-clause-turned : goal.returns-in-Err-clause-turned
returns-in-Err-clause-turned g c = still (meets_unfetched _ _ c.in-Err.cause (sym c.next_instr.ensures.value ∙ c.in-Err.is))

pub returns-in-Ecall-clause-turned : goal.returns-in-Ecall-clause-turned
returns-in-Ecall-clause-turned g c =
    c.meet_call.ensures.turned ((is_at (machine_of c.args.core.now (flat c.args.space.now)) c.in-Ok.instr (sym c.next_instr.ensures.value ∙ c.in-Ok.is)).found_is ∙ ap (λ i. Some i) c.in-Ecall.is)

pub returns-in-Ok-step-clause-turned : goal.returns-in-Ok-step-clause-turned
returns-in-Ok-step-clause-turned g c =
    stepped (g.R.AccessRule.rule c.args.rule.now) c.in-Ok.instr c.args.core.now c.count.new.self c.step.new.regs c.args.space.now c.step.new.space c.step.result
    (sym c.next_instr.ensures.value ∙ c.in-Ok.is) c.in_default.not-Ecall c.in-Ok-step.is (c.step.ensures.done (machine_of c.args.core.now (flat c.args.space.now)) 0) c.step.ensures.pages c.count.ensures

pub returns-in-Err-step-clause-turned : goal.returns-in-Err-step-clause-turned
returns-in-Err-step-clause-turned g c =
    step_failed (g.R.AccessRule.rule c.args.rule.now) c.in-Ok.instr c.args.core.now c.step.new.regs c.args.space.now c.step.new.space c.step.result c.in-Err-step.cause
    (sym c.next_instr.ensures.value ∙ c.in-Ok.is) c.in_default.not-Ecall c.in-Err-step.is (c.step.ensures.done (machine_of c.args.core.now (flat c.args.space.now)) 0) c.step.ensures.pages

pub returns-in-Ecall-clause-stays : goal.returns-in-Ecall-clause-stays
returns-in-Ecall-clause-stays g c = met_stays c.meet_call.result c.args.space.now
