use Rattle.std.proofs.Common.{◌≡◌}
use Rattle.execution_tests.specs.Checkpoints.{GoesOn}
use Rattle.execution_tests.proofs.guest_cpu_tests.run_on.Given as goal

abbrev pub invariant-loop-word : goal.invariant-loop-word
invariant-loop-word g l = record { goes : GoesOn l.cpu.slots; saved : l.cpu.slots.saved ≡ l.fn.cpu.slots.saved; newer : l.cpu.slots.newer ≡ l.fn.cpu.slots.newer }
