use Rattle.guest_cpu.proofs.Terms.{◌+◌, ◌-◌, ◌≡◌, ◌≤◌, AreWindows, limits_of, turn}
use Rattle.guest_cpu.proofs.CpuLemmas.{Goes}
use Rattle.guest_cpu.proofs.cpu.Cpu.run_to_event.Given as goal

-- the guest goes on; its rule, what is saved and its line are as they were, and its counts rise together
abbrev pub invariant-run : goal.invariant-run
invariant-run g l =
    Goes (turn (limits_of l.fn.budget (g.R.AccessRule.rule l.self-inside.rule)) l.fn.env) l.self-inside.rule l.initial.self-inside.core l.self-inside.core l.initial.self-inside.space l.self-inside.space l.self-inside.saved.items l.self-inside.ring
    × (l.self-inside.saved.items ≡ l.initial.self-inside.saved.items) × (l.self-inside.ring ≡ l.initial.self-inside.ring) × (l.self-inside.rule ≡ l.initial.self-inside.rule)
    × (l.steps + l.initial.self-inside.core.marks.steps ≡ l.fn.steps + l.self-inside.core.marks.steps)
    × (l.self-inside.core.marks.steps + l.initial.self-inside.core.marks.since ≡ l.initial.self-inside.core.marks.steps + l.self-inside.core.marks.since)
    × (l.self-inside.core.marks.steps ≤ l.initial.self-inside.core.marks.steps + l.fn.budget)
    × (l.self-inside.core.ended ≡ l.initial.self-inside.core.ended)
    × AreWindows l.self-inside.space l.self-inside.windows

abbrev pub decreases-run : goal.decreases-run
decreases-run g l = l.budget - l.self-inside.core.marks.since
