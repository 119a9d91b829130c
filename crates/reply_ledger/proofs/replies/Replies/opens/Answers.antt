use Rattle.reply_ledger.proofs.Lemmas.{keys-push, none_kept, of_opened, unknown-of, holds-opened}
use Rattle.reply_ledger.proofs.Terms.{ap, false, subst, ◌∙◌, ◌≡◌, IsDistinct, keys_of, nat_eq, Ledger, connection_of, account_at, new_account, sends_of, Holds, is_known}
use Rattle.reply_ledger.proofs.replies.Replies.opens.Goals as goal

pub invariant_of-self-2 : goal.invariant_of-self-2
invariant_of-self-2 c =
    let new : is_known (keys_of c.self.inside.accounts.entries) c.args.conn ≡ false = unknown-of (sends_of c.self.inside.sends.items) (account_at c.self.inside.accounts.entries) (keys_of c.self.inside.accounts.entries) c.args.conn (ap (λ (l : Ledger). connection_of l.connections c.args.conn) c.self.view_is ∙ c.requires) in
    let distinct = subst (IsDistinct nat_eq) (ap keys_of c.in_ok-open.ensures.ok ∙ keys-push c.self.inside.accounts.entries c.args.conn new_account) c.in_ok-open.ensures.unique in
    of_opened (λ B l. Holds B l c.self.inside.sends.items c.self.inside.own.items c.self.inside.sends.cap c.self.inside.shared c.self.inside.next) c.self.inside.accounts.entries c.args.conn new_account c.in_ok-open.ensures.ok new (holds-opened c.args.conn ((none_kept c.self.inside.accounts.entries) c.args.conn new) new distinct c.self.invariant)
