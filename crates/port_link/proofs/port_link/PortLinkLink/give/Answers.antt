use Rattle.port_link.proofs.ShowLemmas.{give_cause, given_less, handed_told, rest_given}
use Rattle.port_link.proofs.port_link.PortLinkLink.give.Goals as goal

pub returns-clause-shows : goal.returns-clause-shows
returns-clause-shows g c =
    let gave = c.give_present-answer.ensures.gives in
    let self = c.args.self.now in
    record {
      told = gave.given;
      handed = handed_told (g.P.Port.told c.give_present-answer.new.port) c.give_present-answer.new.place c.args.conn c.args.bytes.now;
      cause = give_cause (g.P.Port.faults self.port) (g.P.Port.faults c.give_present-answer.new.port) self.gones c.gones_behind-self.result c.give_present-answer.result
          c.give_present-answer.ensures.faults c.gones_behind-self.ensures gave.fault;
      gives = c.is_ok-self.ensures.value;
      rest = rest_given _ _ self.takes c.is_ok-self.result _ self.place c.give_present-answer.new.place c.args.conn c.give_present-answer.result gave.place_is
          (given_less self.place c.args.conn c.requires.connected);
    }
