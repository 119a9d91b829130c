use Rattle.block_book.proofs.Terms.{subst, sym, ◌∙◌, IsHeap}
use Rattle.block_book.proofs.Remembering.{reached-at}
use Rattle.block_book.proofs.book.Book.reached.Goals as goal

pub returns-in-Some-clause-value : goal.returns-in-Some-clause-value
returns-in-Some-clause-value c =
    let sound : IsHeap c.args.self.now = subst IsHeap c.self.view_is c.self.invariant.0 in
    sym (reached-at c.args.self.now c.args.at c.get.result c.in-Some.block sound (sym c.block_at.ensures ∙ c.in-Some.is) (sym c.holds.ensures ∙ c.if-holds.true))
