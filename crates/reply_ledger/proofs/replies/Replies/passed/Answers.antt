use Rattle.reply_ledger.proofs.Lemmas.{length-bytes_of, none_kept, of_written, opened-known, holds-passed, passed-length, passed-stamps, sent-ends, shared-none}
use Rattle.reply_ledger.proofs.Terms.{ap, arith, length, refl, subst, ◌+◌, ◌∙◌, ◌≡◌, ◌≤◌, position_or_len, keys_of, sent_to, Ledger, NotBefore, stamped_to, account_at, sends_of, Holds, Writes, connections_of, waits_in}
use Rattle.reply_ledger.proofs.replies.Replies.passed.Goals as goal

pub pass-requires : goal.pass-requires
pass-requires c =
    let asked = rw (← c.self.view_is) at c.requires.sent in
    let writes : Writes (account_at c.self.inside.accounts.entries) (keys_of c.self.inside.accounts.entries) c.self.inside.sends.items = sent-ends c.self.inside.shared (shared-none c.self.inside.sends.items c.self.inside.own.items c.self.inside.shared (ap (λ (l : Ledger). l.trial) c.self.view_is ∙ c.requires.survivor)) c.self.invariant in
    omega (arith, asked, writes.ends c.args.conn, length-bytes_of (stamped_to (connections_of (sends_of c.self.inside.sends.items) (account_at c.self.inside.accounts.entries) (keys_of c.self.inside.accounts.entries)) c.args.conn), passed-length c.args.conn ((none_kept c.self.inside.accounts.entries) c.args.conn) c.self.invariant.stands)

pub invariant_of-self-2 : goal.invariant_of-self-2
invariant_of-self-2 c =
    let known = opened-known (sends_of c.self.inside.sends.items) c.self.inside.accounts.entries c.args.conn c.self.view_is refl c.requires.opened in
    let asked = rw (← c.self.view_is) at c.requires.sent in
    let few : length ((account_at c.self.inside.accounts.entries) c.args.conn).stamps + c.args.count ≤ length (sent_to c.args.conn (sends_of c.self.inside.sends.items)) = omega (arith, asked, length-bytes_of (stamped_to (connections_of (sends_of c.self.inside.sends.items) (account_at c.self.inside.accounts.entries) (keys_of c.self.inside.accounts.entries)) c.args.conn), passed-length c.args.conn ((none_kept c.self.inside.accounts.entries) c.args.conn) c.self.invariant.stands) in
    let later : NotBefore c.args.stamp ((account_at c.self.inside.accounts.entries) c.args.conn).stamps = subst (NotBefore c.args.stamp) (passed-stamps c.args.conn ((none_kept c.self.inside.accounts.entries) c.args.conn) c.self.invariant.stands) (rw (← c.self.view_is) at c.requires.later) in
    of_written (λ B l. c.first_waiting-self-inside.result ≡ position_or_len (waits_in B) c.self.inside.sends.items → Holds B l c.self.inside.sends.items c.self.inside.own.items c.self.inside.sends.cap c.self.inside.shared c.first_waiting-self-inside.result) c.self.inside.accounts.entries c.args.conn _ c.in_ok-pass.ensures.ok known
    (λ cursor. holds-passed c.args.conn c.args.count c.args.stamp few later cursor c.self.invariant) c.first_waiting-self-inside.ensures
