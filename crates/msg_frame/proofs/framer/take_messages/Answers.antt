use Rattle.msg_frame.proofs.Terms.{[], arith, drop, rules, take, ◌++◌, ◌∷◌, ◌≡◌, cut, skipped}
use Rattle.msg_frame.proofs.Short.{no_rest}
use Rattle.msg_frame.proofs.Walking.{walk_on, left_of-push}
use Rattle.msg_frame.proofs.framer.take_messages.Goals as goal

pub messages-preserved : goal.messages-preserved
messages-preserved c =
    let message = drop (skipped c.args.framing) (c.messages.rest.now ++ take c.in-Within.n c.messages.bytes.now) in
    let more : c.push_joined.new.messages.items ≡ c.messages.messages.items ++ message ∷ [] = grind arith in
    record {
      is_rest = no_rest c.args.framing;
      left = rw more (left_of-push c.messages.messages.items message c.args.old.now c.split_at.result.1.now);
      so_far = rw more (walk_on c.args.framing (cut c.args.framing c.args.old.now c.args.piece.now) c.messages.rest.now c.messages.bytes.now c.split_at.result.1.now c.in-Within.n c.messages.messages.items c.in-Within.ensures c.split_at.ensures.back c.messages.invariant.so_far);
    }

pub returns-in-Refused : goal.returns-in-Refused
returns-in-Refused c = search rules
