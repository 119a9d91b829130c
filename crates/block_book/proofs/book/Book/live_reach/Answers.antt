use Rattle.block_book.proofs.Terms.{Some, ap, sym, ◌∙◌}
use Rattle.block_book.proofs.Reaching.{reach-missed, reach-none, reach-reached}
use Rattle.block_book.proofs.book.Book.live_reach.Goals as goal

pub returns-in_default : goal.returns-in_default
returns-in_default c = sym (reach-none c.args.self.now c.args.at c.reached.ensures.heap c.in_default.ensures.value)

pub returns-then-not-is_live_at : goal.returns-then-not-is_live_at
returns-then-not-is_live_at c = sym (reach-missed c.args.self.now c.args.at c.in-Some.block c.reached.ensures.heap c.in-Some.ensures.value (sym c.is_live_at.ensures ∙ c.if-not-is_live_at.true))

pub returns : goal.returns
returns c = ap Some c.reach.ensures ∙ sym (reach-reached c.args.self.now c.args.at c.in-Some.block c.in-Some.ensures.value (sym c.is_live_at.ensures ∙ c.if-not-is_live_at.false))
