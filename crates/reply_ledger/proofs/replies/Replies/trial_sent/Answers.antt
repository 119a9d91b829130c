use Rattle.reply_ledger.proofs.Lemmas.{none_kept, of_written, opened-known, agrees-sent, compared-with, holds-room, holds-tried, sent-shown, trial-sent, written-is}
use Rattle.reply_ledger.proofs.Terms.{[], append-nil, arith, length, refl, rules, sym, ◌+◌, ◌∙◌, ◌≡◌, ◌≤◌, keys_of, IsSome, unwrap_or, sent_to, bytes_of, stamped_to, agree, account_at, sends_of, Holds, connections_of, trial_of}
use Rattle.reply_ledger.proofs.replies.Replies.trial_sent.Goals as goal

pub invariant_of-self : goal.invariant_of-self
invariant_of-self c = holds-room c.reserve.ensures.items c.reserve.ensures.capacity c.self.invariant

pub invariant_of-self-2 : goal.invariant_of-self-2
invariant_of-self-2 c =
    let some : IsSome (trial_of c.self.inside.sends.items c.self.inside.own.items c.self.inside.shared) = rw (← c.self.view_is) at c.requires.trial in
    let known = opened-known (sends_of c.self.inside.sends.items) c.self.inside.accounts.entries c.args.conn c.self.view_is refl c.requires.opened in
    let end : c.in-Some.end ≡ ((account_at c.self.inside.accounts.entries) c.args.conn).end + length c.args.bytes = c.in-Some.ensures.1 ∙ (λ i. c.end.ensures i + length (c.as_slice.ensures i)) in
    let fits : length c.self.inside.sends.items + (length c.self.inside.own.items + 1) ≤ c.reserve.new.sends.cap = omega (arith, c.in_ok-reserve.ensures.ok, c.in_ok-reserve.ensures.len, c.self.inside.sends.ok, c.self.inside.own.ok, c.len.ensures) in
    of_written (λ B l. Holds B l c.reserve.new.sends.items c.push_back.new.self.items c.reserve.new.sends.cap c.self.inside.shared c.self.inside.next) c.self.inside.accounts.entries c.args.conn _ c.set_end.ensures known
    (holds-tried c.self.inside.shared (record { conn = c.args.conn; bytes = c.args.bytes; taken = c.args.taken; end = c.in-Some.end }) some known end (rw (← c.self.view_is) at c.requires.later) c.in_ok-reserve.ensures.items c.in_ok-push_back.ensures.items fits c.self.invariant)

pub returns : goal.returns
returns c =
    let some : IsSome (trial_of c.self.inside.sends.items c.self.inside.own.items c.self.inside.shared) = rw (← c.self.view_is) at c.requires.trial in
    let known = opened-known (sends_of c.self.inside.sends.items) c.self.inside.accounts.entries c.args.conn c.self.view_is refl c.requires.opened in
    let trial = (λ i. trial_of (c.in_ok-reserve.ensures.items i) (c.in_ok-push_back.ensures.items i) c.self.inside.shared) ∙ trial-sent c.self.inside.sends.items c.self.inside.own.items c.self.inside.shared (record { conn = c.args.conn; bytes = c.args.bytes; taken = c.args.taken; end = c.in-Some.end }) some in
    let shown = sent-shown c.self.inside.accounts.entries c.args.conn _ [] c.self.invariant.stands c.set_end.ensures known (c.in_ok-reserve.ensures.items ∙ sym (append-nil c.self.inside.sends.items)) in
    let same = c.is_some.ensures ∙ c.compare-same.ensures ∙ (λ i. agree (c.as_slice-2.ensures i) (compared-with c.args.conn (unwrap_or (trial_of c.self.inside.sends.items c.self.inside.own.items c.self.inside.shared) []) ((none_kept c.self.inside.accounts.entries) c.args.conn) (written-is c.self.inside.sends.items c.self.inside.own.items c.self.inside.shared some) c.self.invariant i)) in
    record {
      sent = rw (← c.self.view_is) (λ i. record { first = c.self.inside.first; kept = sends_of (c.in_ok-reserve.ensures.items i); trial = trial i; connections = shown i });
      compared = rw (← c.self.view_is) same;
      agrees = λ true_is old q.
          let before = rw (← c.self.view_is) at old in
          (λ i. agree (sent_to q (unwrap_or (trial i) [])) (bytes_of (stamped_to (shown i) q)))
          ∙ agrees-sent (unwrap_or (trial_of c.self.inside.sends.items c.self.inside.own.items c.self.inside.shared) []) (record { conn = c.args.conn; bytes = c.args.bytes; taken = c.args.taken }) (λ x. bytes_of (stamped_to (connections_of (sends_of c.self.inside.sends.items) (account_at c.self.inside.accounts.entries) (keys_of c.self.inside.accounts.entries)) x)) (sym same ∙ true_is) before q;
      err = search rules;
    }
