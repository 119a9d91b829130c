use Rattle.reply_ledger.proofs.Lemmas.{none_kept, length-sends_of, sends_of-take, begun-agrees, holds-recounted, seen-recounted}
use Rattle.reply_ledger.proofs.Terms.{List, Some, ap, append-nil, arith, length, take, ◌++◌, ◌-◌, ◌∙◌, ◌≡◌, ◌≤◌, keys_of, sent_to, Entry, Connection, bytes_of, stamped_to, agree, account_at, sends_of}
use Rattle.reply_ledger.proofs.replies.Replies.begin_trial.Goals as goal

pub invariant_of-self : goal.invariant_of-self
invariant_of-self c =
    let asked = rw (← c.self.view_is) at c.requires.within in
    let within : c.args.sends - c.self.inside.first ≤ length c.self.inside.sends.items = omega (arith, asked, length-sends_of c.self.inside.sends.items) in
    holds-recounted (c.args.sends - c.self.inside.first) c.recount.ensures.keys c.recount.ensures.ends (ap (λ (l : List Entry). take (c.args.sends - c.self.inside.first) c.self.inside.sends.items ++ l) c.clear.ensures.items ∙ append-nil (take (c.args.sends - c.self.inside.first) c.self.inside.sends.items))
    (within, omega (arith, within, ap length c.clear.ensures.items, c.self.inside.sends.ok)) c.self.invariant

pub returns-clause-begun : goal.returns-clause-begun
returns-clause-begun c =
    let shown = seen-recounted (sends_of c.self.inside.sends.items) (account_at c.self.inside.accounts.entries) _ (keys_of c.self.inside.accounts.entries) _ (take (c.args.sends - c.self.inside.first) c.self.inside.sends.items) c.recount.ensures.keys c.recount.ensures.ends in
    let trial : sends_of (take (c.args.sends - c.self.inside.first) c.self.inside.sends.items ++ c.clear.new.self.items) ≡ take (c.args.sends - c.self.inside.first) (sends_of c.self.inside.sends.items) =
    ap sends_of (ap (λ (l : List Entry). take (c.args.sends - c.self.inside.first) c.self.inside.sends.items ++ l) c.clear.ensures.items ∙ append-nil (take (c.args.sends - c.self.inside.first) c.self.inside.sends.items)) ∙ sends_of-take (c.args.sends - c.self.inside.first) c.self.inside.sends.items in
    rw (← c.self.view_is) (λ i. record { first = c.self.inside.first; kept = (sends_of c.self.inside.sends.items); trial = Some (trial i); connections = shown i })

pub returns-clause-agrees : goal.returns-clause-agrees
returns-clause-agrees c = λ q.
    let shown = seen-recounted (sends_of c.self.inside.sends.items) (account_at c.self.inside.accounts.entries) _ (keys_of c.self.inside.accounts.entries) _ (take (c.args.sends - c.self.inside.first) c.self.inside.sends.items) c.recount.ensures.keys c.recount.ensures.ends in
    ap (λ (l : List Connection). agree (sent_to q (sends_of (take (c.args.sends - c.self.inside.first) c.self.inside.sends.items ++ c.clear.new.self.items))) (bytes_of (stamped_to l q))) shown
    ∙ begun-agrees (account_at c.self.inside.accounts.entries) (keys_of c.self.inside.accounts.entries) c.self.inside.sends.items c.clear.new.self.items (c.args.sends - c.self.inside.first) q c.clear.ensures.items ((none_kept c.self.inside.accounts.entries) q)
