use Rattle.trunk_wire.proofs.Terms.{refl, rules, output_of, gives_same}
use Rattle.trunk_wire.proofs.GoingLemmas.{next_took}
use Rattle.trunk_wire.proofs.LinkLemmas.{next_told, next_goes_by}
use Rattle.trunk_wire.proofs.trunk_link.TrunkLinkLink.next.Goals as goal

pub returns-clause-shows : goal.returns-clause-shows
returns-clause-shows g c = record {
  told = rw (c.requires, c.is_ok-self.ensures.value) (next_told _ _ _ _ _ _ _ c.take_event-answer.result (g.met.S.Source.countable c.take_event-answer.new.source) c.take_event-answer.ensures.frame c.take_event-answer.ensures.order);
  order = search rules;
  grammar = rw c.requires (next_goes_by _ _ _ _ _ _ c.args.self.now.refused c.take_event-answer.result c.take_event-answer.ensures.frame c.take_event-answer.ensures.order c.take_event-answer.ensures.offset);
  last = search rules;
  coming = search rules;
  cause = search rules;
  closing = search rules;
  handed = search rules;
  takes = search rules;
  gives = search rules;
}

pub returns-clause-went : goal.returns-clause-went
returns-clause-went g c = record {
  source = c.take_event-answer.ensures.fixed;
  sink = refl;
  taken = rw c.requires
      (next_took _ _ c.take_event-answer.result c.is_ok-self.ensures.value c.refusal_in-self.ensures c.take_event-answer.ensures.frame c.take_event-answer.ensures.order c.take_event-answer.ensures.offset);
  given = gives_same c.args.self.now.gives (output_of g.K.Sink.told c.args.self.now) refl;
}
