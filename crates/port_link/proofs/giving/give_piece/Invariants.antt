use Rattle.port_link.proofs.Terms.{length, true, ◌≡◌, ◌≤◌, is_open}
use Rattle.port_link.proofs.GiveLemmas.{Giving}
use Rattle.port_link.proofs.giving.give_piece.Given as goal

abbrev pub invariant-rest : goal.invariant-rest
invariant-rest g l = record {
  gave : Giving l.conn (g.P.Port.told l.initial.port) (g.P.Port.told l.port) l.bytes l.rest;
  connections : g.P.Port.connections l.port ≡ g.P.Port.connections l.initial.port;
  connected : is_open l.conn (g.P.Port.connections l.port) ≡ true;
  later : g.P.Port.connection_faults l.initial.port ≤ g.P.Port.connection_faults l.port;
  faults : g.P.Port.faults l.port ≡ g.P.Port.faults l.initial.port;
  fixed : g.P.Port.fixed l.port ≡ g.P.Port.fixed l.initial.port;
}

abbrev pub decreases-rest : goal.decreases-rest
decreases-rest g l = length l.rest
