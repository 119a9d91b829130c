use Rattle.block_book.proofs.Terms.{subst, sym, ◌<◌, ◌^◌, ◌∙◌, Heap, IsHeap}
use Rattle.block_book.proofs.Remembering.{bytes-within, owned-held, owned-reserved}
use Rattle.block_book.proofs.book.Book.last_has.Goals as goal

pub owns-requires-clause-within : goal.owns-requires-clause-within
owns-requires-clause-within c =
    let sound : IsHeap c.args.self.now = subst IsHeap c.self.view_is c.self.invariant.0 in
    let end : c.args.self.now.end < 2 ^ 32 = subst (λ (h : Heap). h.end < 2 ^ 32) c.self.view_is c.self.invariant.2 in
    bytes-within c.args.self.now c.get.result c.in-Some.block sound end (sym c.block_at.ensures ∙ c.in-Some.is)

pub returns-in-Some-clause-held : goal.returns-in-Some-clause-held
returns-in-Some-clause-held c = λ owned. owned-held c.args.self.now c.args.at c.args.len c.get.result c.in-Some.block (sym c.block_at.ensures ∙ c.in-Some.is) (sym c.owns.ensures ∙ owned)

pub returns-in-Some-clause-reserved : goal.returns-in-Some-clause-reserved
returns-in-Some-clause-reserved c = λ owned. owned-reserved c.args.self.now c.args.at c.args.len c.get.result c.in-Some.block (sym c.block_at.ensures ∙ c.in-Some.is) (sym c.owns.ensures ∙ owned)
