use Rattle.std.proofs.Common.{◌≡◌}
use Rattle.execution_tests.specs.Checkpoints.{GoesOn}
use Rattle.execution_tests.proofs.guest_cpu_tests.run_to_stop.Given as goal

abbrev pub invariant-loop : goal.invariant-loop
invariant-loop g l = record { goes : GoesOn l.cpu.slots; saved : l.cpu.slots.saved ≡ l.fn.cpu.slots.saved; newer : l.cpu.slots.newer ≡ l.fn.cpu.slots.newer }
