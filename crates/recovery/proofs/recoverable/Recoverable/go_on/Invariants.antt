use Rattle.recovery.proofs.Terms.{◌-◌, ◌^◌}
use Rattle.recovery.proofs.Looping.{HasGone}
use Rattle.recovery.proofs.recoverable.Recoverable.go_on.Given as goal

abbrev pub invariant-turns : goal.invariant-turns
invariant-turns g l = HasGone g.R.AccessRule.rule l.limits.budget l.limits.point l.env l.fn.self l.self l.fn.own.items l.own.items l.fn.steps l.steps

-- how many instructions there may still be
abbrev pub decreases-turns : goal.decreases-turns
decreases-turns g l = 2 ^ 64 - l.self.cpu.slots.live.steps
