use Rattle.guest_cpu.proofs.Terms.{refl, rules, bytes_at, read, flat, answering}
use Rattle.guest_cpu.proofs.CoreLemmas.{sent_long, sent_closed, sent_empty, sent_bytes}
use Rattle.guest_cpu.proofs.MeetLemmas.{still}
use Rattle.guest_cpu.proofs.calling.send.Goals as goal

pub returns-then-len-gt-MOST_SENT-clause-turned : goal.returns-then-len-gt-MOST_SENT-clause-turned
returns-then-len-gt-MOST_SENT-clause-turned g c =
    still (sent_long c.args.core.now c.answer.new.self c.args.conn c.args.at c.args.len _ (search rules) c.answer.ensures)

pub returns-then-not-has-clause-turned : goal.returns-then-not-has-clause-turned
returns-then-not-has-clause-turned g c =
    still (sent_closed c.args.core.now c.answer-then-not-has.new.self c.args.conn c.args.at c.args.len _ (search rules) (search rules) c.answer-then-not-has.ensures)

pub returns-then-len-eq0-clause-turned : goal.returns-then-len-eq0-clause-turned
returns-then-len-eq0-clause-turned g c =
    still (sent_empty c.args.core.now c.answer-then-len-eq0.new.self c.args.conn c.args.at c.args.len _ (search rules) (search rules) (search rules) c.answer-then-len-eq0.ensures)

pub returns-in-Err-clause-turned : goal.returns-in-Err-clause-turned
returns-in-Err-clause-turned g c =
    let sent = sent_bytes c.args.core.now (answering 0 c.args.core.now) c.args.conn c.args.at c.args.len (flat c.args.space.now) (bytes_at read (flat c.args.space.now) c.args.at c.args.len) (search rules) (search rules) (search rules) refl refl in
    (refl, refl, record { conn = c.args.conn; bytes = _; turn = _; turns = sent; is = refl })
