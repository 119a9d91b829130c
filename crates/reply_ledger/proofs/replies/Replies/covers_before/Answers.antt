use Rattle.reply_ledger.proofs.Lemmas.{length-bytes_of, until-passed_of, all-kept, none_kept, stamped_to-of, agree-front, covers-says, passed-stamps, until-front}
use Rattle.reply_ledger.proofs.Terms.{List, [], ap, length, refl, subst, sym, true, ℕ, ◌∙◌, ◌≡◌, keys_of, IsSome, filter, nat_le, unwrap_or, sent_to, IsInOrder, Passed, bytes_of, stamped_to, agree, until, Kept, account_at, sends_of, connections_of, trial_of}
use Rattle.reply_ledger.proofs.replies.Replies.covers_before.Goals as goal

pub covers_until-requires : goal.covers_until-requires
covers_until-requires c = all-kept (λ (k : Kept). IsInOrder k.stamps) c.self.inside.accounts.entries c.self.invariant.stands.distinct c.self.invariant.stands.stamps

pub returns : goal.returns
returns c =
    let some : IsSome (trial_of c.self.inside.sends.items c.self.inside.own.items c.self.inside.shared) = rw (← c.self.view_is) at c.requires.trial in
    let agrees = rw (← c.self.view_is) at c.requires.agrees in
    let long : (q : ℕ) → length (bytes_of (until c.args.item (stamped_to (connections_of (sends_of c.self.inside.sends.items) (account_at c.self.inside.accounts.entries) (keys_of c.self.inside.accounts.entries)) q))) ≡ length (filter (λ (s : ℕ). nat_le s c.args.item) ((account_at c.self.inside.accounts.entries) q).stamps) = λ (q : ℕ).
    length-bytes_of (until c.args.item (stamped_to (connections_of (sends_of c.self.inside.sends.items) (account_at c.self.inside.accounts.entries) (keys_of c.self.inside.accounts.entries)) q)) ∙ ap (λ (l : List Passed). length (until c.args.item l)) (stamped_to-of (sends_of c.self.inside.sends.items) (account_at c.self.inside.accounts.entries) (keys_of c.self.inside.accounts.entries) q ((none_kept c.self.inside.accounts.entries) q)) ∙ until-passed_of c.args.item (sent_to q (sends_of c.self.inside.sends.items)) ((account_at c.self.inside.accounts.entries) q).stamps (c.self.invariant.stands.fits q) in
    let fronts : (q : ℕ) → agree (sent_to q (unwrap_or (trial_of c.self.inside.sends.items c.self.inside.own.items c.self.inside.shared) [])) (bytes_of (until c.args.item (stamped_to (connections_of (sends_of c.self.inside.sends.items) (account_at c.self.inside.accounts.entries) (keys_of c.self.inside.accounts.entries)) q))) ≡ true = λ (q : ℕ).
    let p = until-front c.args.item (stamped_to (connections_of (sends_of c.self.inside.sends.items) (account_at c.self.inside.accounts.entries) (keys_of c.self.inside.accounts.entries)) q) (subst IsInOrder (sym (passed-stamps q ((none_kept c.self.inside.accounts.entries) q) c.self.invariant.stands)) (c.self.invariant.stands.stamps q)) in
    agree-front (sent_to q (unwrap_or (trial_of c.self.inside.sends.items c.self.inside.own.items c.self.inside.shared) [])) (bytes_of (until c.args.item (stamped_to (connections_of (sends_of c.self.inside.sends.items) (account_at c.self.inside.accounts.entries) (keys_of c.self.inside.accounts.entries)) q))) p.0 (ap (agree (sent_to q (unwrap_or (trial_of c.self.inside.sends.items c.self.inside.own.items c.self.inside.shared) []))) p.1 ∙ agrees q) in
    let says = covers-says c.self.inside.accounts.entries (λ k. length (filter (λ (s : ℕ). nat_le s c.args.item) k.stamps)) (λ q. bytes_of (until c.args.item (stamped_to (connections_of (sends_of c.self.inside.sends.items) (account_at c.self.inside.accounts.entries) (keys_of c.self.inside.accounts.entries)) q))) refl long fronts some c.self.invariant in
    rw (← c.self.view_is) ((λ h. says.0 (sym c.covers_until.ensures ∙ h)), (λ h. c.covers_until.ensures ∙ says.1 h))
