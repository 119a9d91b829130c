use Rattle.guest_cpu.specs.Cpus.{live_of}
use Rattle.guest_cpu.proofs.Asking.{asks_here}
use Rattle.session_tests.proofs.guests_tests.runs_to_request.Goals as goal

pub returns-in-Asks-clause-asks : goal.returns-in-Asks-clause-asks
returns-in-Asks-clause-asks g c = λ asks. asks_here _ _ _ (live_of c.loop.cpu) (live_of c.run_to_event.new.self) _ c.loop.invariant.lives c.in-Asks.is c.in_ok-run_to_event.ensures.event
