use Rattle.block_book.proofs.Terms.{None, Some, ap, slice_get, sym, ◌∙◌, ◌≡◌, passed}
use Rattle.block_book.proofs.Finding.{finds-live, finds-other, finds-nothing}
use Rattle.block_book.proofs.book.Book.live_place.Goals as goal

pub returns-in-Some : goal.returns-in-Some
returns-in-Some c =
    let heap = c.args.self.now in
    let is : slice_get heap.blocks (passed heap.blocks c.args.at) ≡ Some c.in-Some.block = ap (slice_get heap.blocks) (sym c.passed-place.ensures.value) ∙ sym c.block_at.ensures ∙ c.in-Some.is in
    finds-live heap c.args.at c.passed-place.result c.in-Some.block c.passed-place.ensures.heap c.passed-place.ensures.value is (sym c.is_live_at.ensures ∙ c.if-is_live_at.true)

pub returns-in_default : goal.returns-in_default
returns-in_default c =
    let heap = c.args.self.now in
    let is : slice_get heap.blocks (passed heap.blocks c.args.at) ≡ Some c.in-Some.block = ap (slice_get heap.blocks) (sym c.passed-place.ensures.value) ∙ sym c.block_at.ensures ∙ c.in-Some.is in
    finds-other heap c.args.at c.in-Some.block c.passed-place.ensures.heap is (sym c.is_live_at.ensures ∙ c.if-is_live_at.false)

pub returns-in_default-2 : goal.returns-in_default-2
returns-in_default-2 c =
    let heap = c.args.self.now in
    let is : slice_get heap.blocks (passed heap.blocks c.args.at) ≡ None = ap (slice_get heap.blocks) (sym c.passed-place.ensures.value) ∙ sym c.block_at.ensures ∙ c.in_default.is in
    finds-nothing heap c.args.at c.passed-place.ensures.heap is
