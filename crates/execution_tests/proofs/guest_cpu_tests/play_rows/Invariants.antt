use Rattle.std.proofs.Common.{◌≡◌}
use Rattle.execution_tests.specs.Checkpoints.{GoesOn}
use Rattle.execution_tests.proofs.guest_cpu_tests.play_rows.Given as goal

abbrev pub invariant-loop-row : goal.invariant-loop-row
invariant-loop-row g l = record { goes : GoesOn l.cpu.slots; newer : l.cpu.slots.newer ≡ l.newer }
