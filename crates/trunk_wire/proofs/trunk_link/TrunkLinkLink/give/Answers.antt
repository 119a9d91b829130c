use Rattle.trunk_wire.proofs.Terms.{arith, refl, rules, ltb-true, CONNECTIONS, intake_of, takes_same}
use Rattle.trunk_wire.proofs.GiveLemmas.{give_told}
use Rattle.trunk_wire.proofs.GoingLemmas.{give_wrote}
use Rattle.trunk_wire.proofs.trunk_link.TrunkLinkLink.give.Goals as goal

pub returns-clause-shows : goal.returns-clause-shows
returns-clause-shows g c = record {
  told = rw (c.requires.may, c.is_ok-self.ensures.value)
      (give_told _ _ _ _ _ c.args.conn c.args.bytes.now c.write_frame-answer.result (g.met.K.Sink.countable c.write_frame-answer.new.sink) (omega (arith, ltb-true c.args.conn CONNECTIONS c.requires.connected)) c.requires.some c.requires.few c.write_frame-answer.ensures.frame);
  handed = search rules;
  cause = search rules;
  gives = search rules;
  rest = search rules;
}

pub returns-clause-went : goal.returns-clause-went
returns-clause-went g c = record {
  source = refl;
  sink = c.write_frame-answer.ensures.fixed;
  taken = takes_same c.args.self.now.takes (intake_of g.S.Source.told c.args.self.now) refl;
  given = rw c.requires.may
      (give_wrote _ _ c.args.conn c.args.bytes.now c.write_frame-answer.result (ltb-true c.args.conn CONNECTIONS c.requires.connected) c.requires.some c.requires.few c.is_ok-self.ensures.value refl c.write_frame-answer.ensures.frame);
}
