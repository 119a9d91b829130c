use Rattle.guest_cpu.specs.Cpus.{live_of}
use Rattle.execution_tests.proofs.guest_cpu_tests.run_to_stop.Goals as goal
use Rattle.guest_cpu.proofs.Asking.{asks_here}

pub returns-in-Asks-clause-asks : goal.returns-in-Asks-clause-asks
returns-in-Asks-clause-asks g c = λ asks. asks_here _ _ _ (live_of c.loop.cpu) (live_of c.run_to_event.new.self) c.in_ok-event.event c.loop.invariant.goes.lives c.in-Asks.is c.in_ok-event.ensures.event
