use Rattle.std.proofs.Common.{Some}
use Rattle.port_link.proofs.CallLemmas.{just_bound}
use Rattle.outside_tests.proofs.port_tests.served.Goals as goal

pub serve-requires-clause-bound : goal.serve-requires-clause-bound
serve-requires-clause-bound c = just_bound (Some c.in_ok-port.port.port.calls.items) (Some c.bind.new.self.port.calls.items) 80 c.in-Ok.ensures.call
