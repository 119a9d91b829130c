use Rattle.msg_frame.proofs.Terms.{Some, arith, ◌≡◌, cut}
use Rattle.msg_frame.proofs.Short.{rest_is_short}
use Rattle.msg_frame.proofs.Walking.{takes_keep}
use Rattle.msg_frame.proofs.framer.Framer.feed.Goals as goal

pub invariant_of-self-2 : goal.invariant_of-self-2
invariant_of-self-2 c =
    let taken : cut c.self.inside.framing c.self.inside.rest.items c.args.piece.now ≡ Some (record { messages = c.take_messages.new.messages.items; rest = c.keep_left.new.rest.items }) = grind arith in
    (takes_keep c.self.inside.framing c.self.inside.rest.items c.args.piece.now c.keep_left.new.rest.items c.take_messages.new.messages.items c.self.invariant taken).1

pub returns-clause-short : goal.returns-clause-short
returns-clause-short c =
    let taken : cut c.self.inside.framing c.self.inside.rest.items c.args.piece.now ≡ Some (record { messages = c.take_messages.new.messages.items; rest = c.keep_left.new.rest.items }) = grind arith in
    (takes_keep c.self.inside.framing c.self.inside.rest.items c.args.piece.now c.keep_left.new.rest.items c.take_messages.new.messages.items c.self.invariant taken).0

pub returns-clause-rest : goal.returns-clause-rest
returns-clause-rest c =
    let taken : cut c.self.inside.framing c.self.inside.rest.items c.args.piece.now ≡ Some (record { messages = c.take_messages.new.messages.items; rest = c.keep_left.new.rest.items }) = grind arith in
    rest_is_short c.self.inside.framing c.keep_left.new.rest.items
    (takes_keep c.self.inside.framing c.self.inside.rest.items c.args.piece.now c.keep_left.new.rest.items c.take_messages.new.messages.items c.self.invariant taken).1
