use Rattle.port_link.proofs.CallLemmas.{just_bound}
use Rattle.outside_tests.proofs.tcp_port_tests.served_in_turn.Goals as goal

pub serve-requires-clause-bound : goal.serve-requires-clause-bound
serve-requires-clause-bound g c = just_bound (g.C.Port.told c.args.port) (g.C.Port.told c.bind.new.self) _ c.in-Ok.ensures.call
