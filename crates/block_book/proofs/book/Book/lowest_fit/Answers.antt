use Rattle.block_book.proofs.Terms.{ap, arith, length, max, subst, sym, ◌*◌, ◌+◌, ◌/◌, ◌<◌, ◌^◌, ◌∙◌, ◌≡◌, ◌≤◌, Heap, IsHeap}
use Rattle.block_book.proofs.Fitting.{walk-begins, turn-stops, turn-goes, walk-ends, walk-fails}
use Rattle.block_book.proofs.book.Book.lowest_fit.Goals as goal

pub loop-block-init : goal.loop-block-init
loop-block-init c =
    let heap = c.args.self.now in
    let begins : c.max.result ≡ max heap.start c.args.from = c.max.ensures ∙ ap (λ (h : Heap). max h.start c.args.from) c.self.view_is in
    record {
      walks = walk-begins heap c.args.count c.args.from _ (ap (λ n. (n + 15) / 16 * 16) (c.from.ensures ∙ begins));
      same = c.deref-block-items.ensures.value ∙ ap (λ (h : Heap). h.blocks) c.self.view_is;
      small = omega arith;
    }

pub returns-then-low-count-clause-answer : goal.returns-then-low-count-clause-answer
returns-then-low-count-clause-answer c =
    let sound : IsHeap c.args.self.now = subst IsHeap c.self.view_is c.self.invariant.0 in
    sym (turn-stops c.args.self.now c.deref-block-items.result.now c.args.count c.args.from c.loop-block.block-index c.loop-block.low c.from-in-loop-block.result _ sound c.loop-block.invariant.same c.loop-block.invariant.walks c.loop-block-test.true (c.from-in-loop-block.ensures ∙ c.extent_start.ensures) c.if-low-count.true).0

pub returns-then-low-count-clause-within : goal.returns-then-low-count-clause-within
returns-then-low-count-clause-within c =
    let sound : IsHeap c.args.self.now = subst IsHeap c.self.view_is c.self.invariant.0 in
    (turn-stops c.args.self.now c.deref-block-items.result.now c.args.count c.args.from c.loop-block.block-index c.loop-block.low c.from-in-loop-block.result _ sound c.loop-block.invariant.same c.loop-block.invariant.walks c.loop-block-test.true (c.from-in-loop-block.ensures ∙ c.extent_start.ensures) c.if-low-count.true).1

pub loop-block-preserved : goal.loop-block-preserved
loop-block-preserved c =
    let heap = c.args.self.now in
    let sound : IsHeap heap = subst IsHeap c.self.view_is c.self.invariant.0 in
    let end : heap.end < 2 ^ 32 = subst (λ (h : Heap). h.end < 2 ^ 32) c.self.view_is c.self.invariant.2 in
    let turn = turn-goes heap c.deref-block-items.result.now c.args.count c.args.from c.loop-block.block-index c.loop-block.low c.from-in-loop-block.result c.extent_end.result c.max-low.result _ sound c.loop-block.invariant.same c.loop-block.invariant.walks c.loop-block-test.true (c.from-in-loop-block.ensures ∙ c.extent_start.ensures) c.if-low-count.false c.extent_end.ensures c.max-low.ensures in
    let small = c.loop-block.invariant.small in
    let next = turn.1 in
    record {
      walks = turn.0;
      same = c.loop-block.invariant.same;
      small = omega arith;
    }

pub returns-then-low-count-2-clause-answer : goal.returns-then-low-count-2-clause-answer
returns-then-low-count-2-clause-answer c =
    let heap = c.args.self.now in
    let all : length heap.blocks ≤ c.loop-block.block-index = subst (λ xs. length xs ≤ c.loop-block.block-index) c.loop-block.invariant.same c.loop-block-test.false in
    let same : c.self.inside.end ≡ heap.end = ap (λ (h : Heap). h.end) c.self.view_is in
    sym (walk-ends heap c.args.count c.args.from c.loop-block.block-index c.loop-block.low c.loop-block.invariant.walks all (omega arith))

pub overflow_cast-result-then-low-count-2 : goal.overflow_cast-result-then-low-count-2
overflow_cast-result-then-low-count-2 c = omega (arith, c.self.invariant.2)

pub returns-else-low-count-2-clause-answer : goal.returns-else-low-count-2-clause-answer
returns-else-low-count-2-clause-answer c =
    let heap = c.args.self.now in
    let same : c.self.inside.end ≡ heap.end = ap (λ (h : Heap). h.end) c.self.view_is in
    sym (walk-fails heap c.args.count c.args.from c.loop-block.block-index c.loop-block.low c.loop-block.invariant.walks (omega arith))
