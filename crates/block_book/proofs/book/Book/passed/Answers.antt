use Rattle.std.proofs.lemmas.List.Sorted.{IsPartitionPoint-from_clause, IsPartitionedBy-leb}
use Rattle.block_book.proofs.Terms.{ap, leb, rules, subst, sym, ◌∙◌, ◌≡◌, IsNonDecreasingBy, Block, extent_end, Heap, IsHeap, passed}
use Rattle.block_book.proofs.Rising.{stand-rising}
use Rattle.block_book.proofs.Finding.{passed-is}
use Rattle.block_book.proofs.book.Book.passed.Goals as goal

pub returns-clause-value : goal.returns-clause-value
returns-clause-value c =
    let heap = c.args.self.now in
    let sound : IsHeap heap = subst IsHeap c.self.view_is c.self.invariant.0 in
    let same : c.deref.result.now ≡ heap.blocks = c.deref.ensures.value ∙ ap (λ (h : Heap). h.blocks) c.self.view_is in
    let rising = stand-rising heap.start heap.blocks heap.end sound.standing in
    let parted = IsPartitionedBy-leb extent_end c.deref.result.now c.args.at (subst (IsNonDecreasingBy extent_end) (sym same) rising) in
    let point = IsPartitionPoint-from_clause (λ (b : Block). leb (extent_end b) c.args.at) _ _ c.partition_point.ensures.partitioned parted (λ a r q k. search rules) in
    subst (λ bs. c.partition_point.result ≡ passed bs c.args.at) same (passed-is c.deref.result.now c.args.at c.partition_point.result c.partition_point.ensures.bound point.0 point.1)
