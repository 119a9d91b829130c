use Rattle.reply_ledger.proofs.Lemmas.{of_written, opened-known, holds-room, holds-sent, shared-none}
use Rattle.reply_ledger.proofs.Terms.{List, [], ap, arith, length, refl, sym, ℕ, ◌++◌, ◌+◌, ◌∙◌, ◌∷◌, ◌≡◌, set_value, nat_eq, Entry, Ledger, account_at, sends_of, Holds}
use Rattle.reply_ledger.proofs.replies.Replies.sent.Goals as goal

pub invariant_of-self : goal.invariant_of-self
invariant_of-self c = holds-room c.reserve.ensures.items c.reserve.ensures.capacity c.self.invariant

pub invariant_of-self-2 : goal.invariant_of-self-2
invariant_of-self-2 c =
    let known = opened-known (sends_of c.self.inside.sends.items) c.self.inside.accounts.entries c.args.conn c.self.view_is refl c.requires.opened in
    let moved = c.in-Some.ensures.moved ∙ ap (λ (n : ℕ). set_value (nat_eq c.args.conn) c.self.inside.accounts.entries (record ((account_at c.self.inside.accounts.entries) c.args.conn) { end = n })) (sym c.in-Some.ensures.end) in
    let items : c.push_back_reserved.new.self.items ≡ c.self.inside.sends.items ++ (record { conn = c.args.conn; bytes = c.args.bytes; taken = c.args.taken; end = c.in-Some.place.0 }) ∷ [] = c.push_back_reserved.ensures.items ∙ ap (λ (l : List Entry). l ++ (record { conn = c.args.conn; bytes = c.args.bytes; taken = c.args.taken; end = c.in-Some.place.0 }) ∷ []) c.in_ok-reserve.ensures.items in
    let long : c.len.result ≡ length c.self.inside.sends.items + 1 = omega (arith, c.len.ensures, c.push_back_reserved.ensures.len, c.in_ok-reserve.ensures.len, c.self.inside.sends.ok) in
    of_written (λ B l. Holds B l c.push_back_reserved.new.self.items c.self.inside.own.items c.push_back_reserved.new.self.cap c.self.inside.shared c.first_of_more-self-inside.result) c.self.inside.accounts.entries c.args.conn _ moved known
    (holds-sent c.self.inside.shared (record { conn = c.args.conn; bytes = c.args.bytes; taken = c.args.taken; end = c.in-Some.place.0 }) c.in-Some.place.1 (shared-none c.self.inside.sends.items c.self.inside.own.items c.self.inside.shared (ap (λ (l : Ledger). l.trial) c.self.view_is ∙ c.requires.survivor)) known (c.in-Some.ensures.end ∙ ap (λ (l : List ℕ). ((account_at c.self.inside.accounts.entries) c.args.conn).end + length l) c.as_slice.ensures) c.requires.nonempty (rw (← c.self.view_is) at c.requires.later) c.in-Some.ensures.opened items long c.first_of_more-self-inside.ensures c.self.invariant)
