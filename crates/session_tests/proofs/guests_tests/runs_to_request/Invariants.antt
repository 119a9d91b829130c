use Rattle.std.proofs.Common.{◌≡◌}
use Rattle.std.specs.Prelude.{None}
use Rattle.session_tests.proofs.guests_tests.runs_to_request.Given as goal

abbrev pub invariant-loop : goal.invariant-loop
invariant-loop g l = record { lives : l.cpu.slots.live.ended ≡ None }
