use Rattle.guest_cpu.proofs.Terms.{◌+◌, ◌-◌, ◌≡◌, GuestPages, AreWindows, recorded}
use Rattle.guest_cpu.proofs.CpuLemmas.{Goes}
use Rattle.guest_cpu.proofs.cpu.Cpu.run_recorded.Given as goal

-- the guest goes on; its rule, what is saved and its line are as they were
abbrev pub invariant-run : goal.invariant-run
invariant-run g l =
    Goes (recorded l.fn.until) l.self-inside.rule l.initial.self-inside.core l.self-inside.core l.initial.self-inside.space l.self-inside.space l.self-inside.saved.items l.self-inside.ring
    × (l.self-inside.saved.items ≡ l.initial.self-inside.saved.items) × (l.self-inside.ring ≡ l.initial.self-inside.ring) × (l.self-inside.rule ≡ l.initial.self-inside.rule)
    × (l.steps + l.initial.self-inside.core.marks.steps ≡ l.fn.steps + l.self-inside.core.marks.steps)
    × (l.self-inside.core.ended ≡ l.initial.self-inside.core.ended)
    × ((space : GuestPages) → AreWindows space l.self-inside.windows)

abbrev pub decreases-run : goal.decreases-run
decreases-run g l = l.until - l.self-inside.core.marks.steps
