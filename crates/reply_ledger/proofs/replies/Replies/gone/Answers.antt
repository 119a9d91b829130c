use Rattle.reply_ledger.proofs.Lemmas.{opened-known, marked-holds}
use Rattle.reply_ledger.proofs.Terms.{refl, sends_of}
use Rattle.reply_ledger.proofs.replies.Replies.gone.Goals as goal

pub invariant_of-self : goal.invariant_of-self
invariant_of-self c =
    let known = opened-known (sends_of c.self.inside.sends.items) c.self.inside.accounts.entries c.args.conn c.self.view_is refl c.requires in
    marked-holds c.self.inside.accounts.entries c.args.conn _ c.leave.ensures known refl refl refl c.first_waiting-self-inside.ensures c.self.invariant
