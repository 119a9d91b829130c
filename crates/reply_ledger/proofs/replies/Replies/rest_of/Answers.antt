use Rattle.reply_ledger.proofs.Lemmas.{find-at, find-none, rest-of, rests, rests-before, rests-bytes, rests-part}
use Rattle.reply_ledger.proofs.Terms.{None, Some, ap, arith, length, not, sym, true, ◌<◌, ◌∙◌, ◌≡◌, option_map, Send, account_at}
use Rattle.reply_ledger.proofs.replies.Replies.rest_of.Goals as goal

pub loop-i-init : goal.loop-i-init
loop-i-init c = rests-before c.args.conn c.first_with_rest-from.result c.self.invariant.stands c.first_with_rest-from.ensures

pub returns-then-not-is_empty : goal.returns-then-not-is_empty
returns-then-not-is_empty c =
    let lt : c.loop-i.i < length c.self.inside.sends.items = omega (arith, c.loop-i-test.true, c.len-i-end.ensures, c.self.inside.sends.ok) in
    let yes : rests (account_at c.self.inside.accounts.entries) c.args.conn c.index.result.now ≡ true = rests-part (account_at c.self.inside.accounts.entries) c.args.conn c.passed-at.result c.index.result.now c.part_of-rest.result.now c.passed-at.ensures c.part_of-rest.ensures ∙ ap not (sym c.is_empty.ensures ∙ c.if-not-is_empty.true) in
    let bytes = rests-bytes (account_at c.self.inside.accounts.entries) c.args.conn c.passed-at.result c.index.result.now c.part_of-rest.result.now c.passed-at.ensures c.part_of-rest.ensures yes in
    rw (← c.self.view_is) (ap Some bytes ∙ sym (ap (option_map (λ (part : Send). part.bytes)) (rest-of _ c.self.inside.accounts.entries c.args.conn (Some c.index.result.now) c.self.invariant (find-at (rests (account_at c.self.inside.accounts.entries) c.args.conn) c.self.inside.sends.items c.loop-i.i c.index.result.now lt c.index.ensures yes c.loop-i.invariant))))

pub returns : goal.returns
returns c = rw (← c.self.view_is) (sym (ap (option_map (λ (part : Send). part.bytes)) (rest-of _ c.self.inside.accounts.entries c.args.conn None c.self.invariant (find-none _ c.self.inside.sends.items
    (λ k d within. c.loop-i.invariant k d (omega (arith, within, c.loop-i-test.false, c.len-i-end.ensures, c.self.inside.sends.ok)))))))
