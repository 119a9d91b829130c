use Rattle.port_link.proofs.Terms.{refl, rules}
use Rattle.port_link.proofs.ShowLemmas.{fresh_phases, fresh_stands, fresh_told, fresh_whole}
use Rattle.port_link.proofs.port_link.PortLink.make.Goals as goal

pub invariant_of-result : goal.invariant_of-result
invariant_of-result g c = record {
  some = c.requires.some;
  few = c.requires.few;
  stands = search (rules, fresh_stands);
  whole = λ is. fresh_whole (g.P.Port.told c.args.port) c.requires.bound;
}

pub returns-clause-shows : goal.returns-clause-shows
returns-clause-shows g c = record {
  phases = search (rules, fresh_phases);
  handed = refl;
  takes = refl;
  gives = refl;
}

pub returns-clause-told : goal.returns-clause-told
returns-clause-told g c = fresh_told (g.P.Port.told c.args.port) _ c.requires.bound
