use Rattle.reply_ledger.proofs.Lemmas.{none_kept, appended, holds-adopted, seen-adopted, written-is}
use Rattle.reply_ledger.proofs.Terms.{List, None, [], ap, arith, ◌∙◌, ◌≡◌, keys_of, IsSome, unwrap_or, Send, account_at, sends_of, connections_of, trial_of, written}
use Rattle.reply_ledger.proofs.replies.Replies.adopt.Goals as goal

pub invariant_of-self : goal.invariant_of-self
invariant_of-self c =
    let items : c.append.new.self.items ≡ written c.self.inside.sends.items c.self.inside.own.items c.self.inside.shared = appended c.in-Some.is c.self.invariant (omega (arith, c.self.inside.sends.ok)) (omega (arith, c.self.inside.own.ok)) c.truncate.ensures.len c.truncate.ensures.capacity c.append.ensures.succeeds c.truncate.ensures.items c.append.ensures.items in
    holds-adopted c.self.inside.shared (rw (← c.self.view_is) at c.requires.trial) (none_kept c.self.inside.accounts.entries) (rw (← c.self.view_is) at c.requires.covers) items c.first_waiting-self-inside.ensures c.self.invariant

pub returns : goal.returns
returns c =
    let some : IsSome (trial_of c.self.inside.sends.items c.self.inside.own.items c.self.inside.shared) = rw (← c.self.view_is) at c.requires.trial in
    let items : c.append.new.self.items ≡ written c.self.inside.sends.items c.self.inside.own.items c.self.inside.shared = appended c.in-Some.is c.self.invariant (omega (arith, c.self.inside.sends.ok)) (omega (arith, c.self.inside.own.ok)) c.truncate.ensures.len c.truncate.ensures.capacity c.append.ensures.succeeds c.truncate.ensures.items c.append.ensures.items in
    let kept : sends_of c.append.new.self.items ≡ unwrap_or (trial_of c.self.inside.sends.items c.self.inside.own.items c.self.inside.shared) [] = ap sends_of items ∙ written-is c.self.inside.sends.items c.self.inside.own.items c.self.inside.shared some in
    let shown = ap (λ (l : List Send). connections_of l (account_at c.self.inside.accounts.entries) (keys_of c.self.inside.accounts.entries)) kept ∙ seen-adopted (unwrap_or (trial_of c.self.inside.sends.items c.self.inside.own.items c.self.inside.shared) []) (none_kept c.self.inside.accounts.entries) c.self.invariant.stands (rw (← c.self.view_is) at c.requires.covers) in
    rw (← c.self.view_is) (λ i. record { first = c.self.inside.first; kept = kept i; trial = None; connections = shown i })
