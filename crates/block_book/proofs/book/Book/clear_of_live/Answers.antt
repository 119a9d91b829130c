use Rattle.block_book.proofs.Terms.{ap, sym, ◌&&◌, ◌∙◌, list_all, Heap}
use Rattle.block_book.proofs.Rooms.{clear-is, clear_of}
use Rattle.block_book.proofs.book.Book.clear_of_live.Goals as goal

pub returns-then-spans : goal.returns-then-spans
returns-then-spans c =
    let heap = c.args.self.now in
    let same = c.deref.ensures.value ∙ ap (λ (h : Heap). h.blocks) c.self.view_is in
    c.all_clear_of.ensures
    ∙ ap (list_all (clear_of c.args.at c.args.size)) same
    ∙ sym (clear-is heap.start heap.end heap.blocks c.args.at c.args.size ∙ ap (λ b. b && list_all (clear_of c.args.at c.args.size) heap.blocks) (sym c.spans.ensures ∙ c.if-spans.true))

pub returns-else-spans : goal.returns-else-spans
returns-else-spans c =
    let heap = c.args.self.now in
    c.if-spans.false ∙ sym (clear-is heap.start heap.end heap.blocks c.args.at c.args.size ∙ ap (λ b. b && list_all (clear_of c.args.at c.args.size) heap.blocks) (sym c.spans.ensures ∙ c.if-spans.false))
