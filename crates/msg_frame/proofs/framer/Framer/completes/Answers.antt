use Rattle.msg_frame.proofs.Terms.{[], arith, drop, length-append, rules, take, ◌++◌, ◌∷◌, cut, skipped}
use Rattle.msg_frame.proofs.Short.{no_rest}
use Rattle.msg_frame.proofs.Walking.{walk_on}
use Rattle.msg_frame.proofs.framer.Framer.completes.Goals as goal

pub messages-preserved : goal.messages-preserved
messages-preserved c =
    let message = drop (skipped c.self.inside.framing) (c.messages.rest.now ++ take c.in-Within.n c.messages.bytes.now) in
    let ends = c.in-Within.ensures in
    record {
      found = c.messages.invariant.found ++ message ∷ [];
      number = omega (arith, length-append c.messages.invariant.found (message ∷ []), c.messages.invariant.number);
      room = omega (arith, c.messages.invariant.room, c.split_at.ensures.back_len, ends.0, ends.1);
      is_rest = no_rest c.self.inside.framing;
      so_far = walk_on c.self.inside.framing (cut c.args.self.now.framing c.args.self.now.rest c.args.piece.now) c.messages.rest.now c.messages.bytes.now c.split_at.result.1.now c.in-Within.n c.messages.invariant.found ends c.split_at.ensures.back c.messages.invariant.so_far;
    }

pub returns-in-Missing : goal.returns-in-Missing
returns-in-Missing c = search rules
