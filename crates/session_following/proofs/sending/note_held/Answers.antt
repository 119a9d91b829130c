use Rattle.session_following.proofs.Terms.{ap, arith, length}
use Rattle.session_following.proofs.Held.{held_fits}
use Rattle.session_following.proofs.sending.note_held.Goals as goal

pub passed-requires-clause-sent : goal.passed-requires-clause-sent
passed-requires-clause-sent c = held_fits c.args.replies.now c.sent.new.self c.args.conn c.args.bytes c.args.taken c.in_default.ensures.ok (c.sound.ensures.lawful.passed c.args.conn) (omega (arith, ap length c.as_slice.ensures))
