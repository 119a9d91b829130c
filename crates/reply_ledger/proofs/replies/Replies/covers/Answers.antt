use Rattle.reply_ledger.proofs.Lemmas.{length-bytes_of, none_kept, covers-says, passed-length}
use Rattle.reply_ledger.proofs.Terms.{length, refl, sym, ◌∙◌, keys_of, IsSome, bytes_of, stamped_to, account_at, sends_of, connections_of, trial_of}
use Rattle.reply_ledger.proofs.replies.Replies.covers.Goals as goal

pub returns : goal.returns
returns c =
    let some : IsSome (trial_of c.self.inside.sends.items c.self.inside.own.items c.self.inside.shared) = rw (← c.self.view_is) at c.requires.trial in
    let agrees = rw (← c.self.view_is) at c.requires.agrees in
    let says = covers-says c.self.inside.accounts.entries (λ k. length k.stamps) (λ q. bytes_of (stamped_to (connections_of (sends_of c.self.inside.sends.items) (account_at c.self.inside.accounts.entries) (keys_of c.self.inside.accounts.entries)) q)) refl
    (λ q. length-bytes_of (stamped_to (connections_of (sends_of c.self.inside.sends.items) (account_at c.self.inside.accounts.entries) (keys_of c.self.inside.accounts.entries)) q) ∙ passed-length q ((none_kept c.self.inside.accounts.entries) q) c.self.invariant.stands) agrees some c.self.invariant in
    rw (← c.self.view_is) ((λ h. says.0 (sym c.covers.ensures ∙ h)), (λ h. c.covers.ensures ∙ says.1 h))
