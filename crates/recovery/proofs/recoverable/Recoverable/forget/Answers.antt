use Rattle.recovery.proofs.Terms.{ap, min, take, ◌-◌, ◌∙◌, is_open-trimmed, Ledger, is_open, settled}
use Rattle.recovery.proofs.ForgetLemmas.{forgets}
use Rattle.recovery.proofs.recoverable.Recoverable.forget.Goals as goal

pub returns-clause-forgets : goal.returns-clause-forgets
returns-clause-forgets g c rules image entries plan now paths k items replies = forgets k c.oldest_marks-oldest.result c.oldest_marks-oldest.ensures c.trim.ensures.trimmed c.trim.ensures.shows c.trim-2.ensures items replies

pub returns-clause-open : goal.returns-clause-open
returns-clause-open g c conn =
    ap (λ (ledger : Ledger). is_open ledger.connections conn) c.trim-2.ensures
    ∙ is_open-trimmed (take (min (c.oldest_marks-oldest.result.sends - c.args.self.now.replies.first) (settled c.args.self.now.replies)) c.args.self.now.replies.kept) c.args.self.now.replies.connections conn
