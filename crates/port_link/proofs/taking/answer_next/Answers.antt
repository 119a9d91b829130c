use Rattle.port_link.proofs.Terms.{sym, ◌∙◌}
use Rattle.port_link.proofs.PlaceLemmas.{broken_found, none_broken}
use Rattle.port_link.proofs.taking.answer_next.Goals as goal

pub drop_broken-requires-clause-broken : goal.drop_broken-requires-clause-broken
drop_broken-requires-clause-broken g c = (broken_found c.args.place.now.stages c.in-Some.conn (sym c.first_broken.ensures ∙ c.in-Some.is)).0

pub end_or_wait-requires-clause-none : goal.end_or_wait-requires-clause-none
end_or_wait-requires-clause-none g c = none_broken c.args.place.now.stages (sym c.first_broken.ensures ∙ c.in-None.is)
