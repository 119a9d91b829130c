use Rattle.reply_ledger.proofs.Lemmas.{next-past}
use Rattle.reply_ledger.proofs.Terms.{ap, arith, sym, option_map, shown_part}
use Rattle.reply_ledger.proofs.replies.Replies.next_piece.Goals as goal

pub returns-then-self-len : goal.returns-then-self-len
returns-then-self-len c = rw (← c.self.view_is) (sym (ap (option_map shown_part) (next-past _ c.self.inside.accounts.entries c.args.until c.self.invariant (omega (arith, c.if-self-len.true, c.len.ensures, c.self.inside.sends.ok)))))
