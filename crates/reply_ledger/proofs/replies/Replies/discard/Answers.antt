use Rattle.reply_ledger.proofs.Lemmas.{holds-recounted, seen-recounted}
use Rattle.reply_ledger.proofs.Terms.{List, None, ap, arith, sym, take, take_all, keys_of, Connection, account_at, sends_of}
use Rattle.reply_ledger.proofs.replies.Replies.discard.Goals as goal

pub invariant_of-self : goal.invariant_of-self
invariant_of-self c = holds-recounted c.len.result c.recount.ensures.keys c.recount.ensures.ends (sym (take_all c.len.result c.self.inside.sends.items (omega (arith, c.len.ensures, c.self.inside.sends.ok)))) tt c.self.invariant

pub returns-in-Some : goal.returns-in-Some
returns-in-Some c = rw (← c.self.view_is) (ap (λ (l : List Connection). record { first = c.self.inside.first; kept = (sends_of c.self.inside.sends.items); trial = None; connections = l }) (seen-recounted (sends_of c.self.inside.sends.items) (account_at c.self.inside.accounts.entries) _ (keys_of c.self.inside.accounts.entries) _ (take c.len.result c.self.inside.sends.items) c.recount.ensures.keys c.recount.ensures.ends))
