use Rattle.std.proofs.Common.{min}
use Rattle.reply_ledger.proofs.Lemmas.{none_kept, sends_of-drop, holds-trimmed, seen-trimmed, sent-ends, settled-is, shared-none, trial-same}
use Rattle.reply_ledger.proofs.Terms.{ap, arith, drop, sym, take, ◌+◌, ◌-◌, ◌∙◌, ◌≡◌, ◌≤◌, keys_of, Ledger, settled, trimmed_connections, account_at, sends_of, connections_of, ledger_of, trial_of}
use Rattle.reply_ledger.proofs.replies.Replies.trim.Goals as goal

pub drop_oldest-requires-clause-writes : goal.drop_oldest-requires-clause-writes
drop_oldest-requires-clause-writes c = sent-ends c.self.inside.shared (shared-none c.self.inside.sends.items c.self.inside.own.items c.self.inside.shared (ap (λ (l : Ledger). l.trial) c.self.view_is ∙ c.requires.survivor)) c.self.invariant

pub invariant_of-self : goal.invariant_of-self
invariant_of-self c =
    let le : c.min-count.result ≤ c.self.inside.next = omega (arith, c.min-count.ensures) in
    holds-trimmed c.min-count.result c.self.inside.shared (shared-none c.self.inside.sends.items c.self.inside.own.items c.self.inside.shared (ap (λ (l : Ledger). l.trial) c.self.view_is ∙ c.requires.survivor)) le c.drop_oldest.ensures.keys c.drop_oldest.ensures.given (c.give_room_back.ensures.items ∙ c.drop_oldest.ensures.items) (omega arith) c.self.invariant

pub returns : goal.returns
unfolding settled
returns c =
    let left = c.give_room_back.ensures.items ∙ c.drop_oldest.ensures.items in
    let count : c.min-count.result ≡ min (c.args.sends - c.self.inside.first) (settled (ledger_of c.self.inside.first c.self.inside.sends.items c.self.inside.own.items c.self.inside.shared (connections_of (sends_of c.self.inside.sends.items) (account_at c.self.inside.accounts.entries) (keys_of c.self.inside.accounts.entries)))) = c.min-count.ensures ∙ (λ i. min (c.saturating_sub.ensures i) (sym (settled-is (none_kept c.self.inside.accounts.entries) c.self.invariant.stands) i)) in
    let kept : sends_of c.give_room_back.new.queue.items ≡ drop c.min-count.result (sends_of c.self.inside.sends.items) = ap sends_of left ∙ sends_of-drop c.min-count.result c.self.inside.sends.items in
    let shown = seen-trimmed (account_at c.self.inside.accounts.entries) _ (keys_of c.self.inside.accounts.entries) _ c.self.inside.sends.items _ c.min-count.result c.drop_oldest.ensures.keys c.drop_oldest.ensures.given left in
    let trial = trial-same c.self.inside.sends.items c.self.inside.own.items c.give_room_back.new.queue.items c.give_room_back-2.new.queue.items c.self.inside.shared (shared-none c.self.inside.sends.items c.self.inside.own.items c.self.inside.shared (ap (λ (l : Ledger). l.trial) c.self.view_is ∙ c.requires.survivor)) in
    rw (← c.self.view_is) ((λ i. record { first = c.self.inside.first + c.min-count.result; kept = kept i; trial = trial i; connections = shown i })
    ∙ (λ i. record { first = c.self.inside.first + count i; kept = drop (count i) (sends_of c.self.inside.sends.items); trial = trial_of c.self.inside.sends.items c.self.inside.own.items c.self.inside.shared; connections = trimmed_connections (take (count i) (sends_of c.self.inside.sends.items)) (connections_of (sends_of c.self.inside.sends.items) (account_at c.self.inside.accounts.entries) (keys_of c.self.inside.accounts.entries)) }))
