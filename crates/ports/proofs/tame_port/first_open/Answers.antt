use Rattle.ports.proofs.Terms.{sym, ◌∙◌}
use Rattle.ports.proofs.TameLemmas.{first_none, first_some}
use Rattle.ports.proofs.tame_port.first_open.Goals as goal

pub returns-in-Some : goal.returns-in-Some
returns-in-Some c = sym (first_some c.args.opened.now c.in-Some.conn (sym c.first_place.ensures ∙ c.in-Some.is))

pub returns-in-None : goal.returns-in-None
returns-in-None c = sym (first_none c.args.opened.now (sym c.first_place.ensures ∙ c.in-None.is))
