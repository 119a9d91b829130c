use Rattle.block_book.proofs.Terms.{ap, arith, not, of_calls, rules, subst, sym, ◌∙◌, filter_from_retain, Block, IsHeap, heap_of, recycled}
use Rattle.block_book.proofs.Sound.{sound-filter}
use Rattle.block_book.proofs.book.Book.recycle.Goals as goal

pub invariant_of-self : goal.invariant_of-self
invariant_of-self c =
    let inside = c.self.inside in
    let heap = heap_of inside.start inside.end inside.blocks.items inside.freed.items in
    let items = filter_from_retain _ (λ (block : Block). not block.delayed) (λ p x b q h. search (rules, of_calls)) _ _ _ c.retain.ensures.filtered in (
      subst (λ blocks. IsHeap (heap_of inside.start inside.end blocks inside.freed.items)) (sym items) (sound-filter (λ (block : Block). not block.delayed) heap heap.freed c.self.invariant.0),
      omega (arith, c.self.invariant.1, c.retain.ensures.capacity),
      c.self.invariant.2,
      c.self.invariant.3,
    )

pub returns-clause-recycled : goal.returns-clause-recycled
returns-clause-recycled c =
    let inside = c.self.inside in
    let items = filter_from_retain _ (λ (block : Block). not block.delayed) (λ p x b q h. search (rules, of_calls)) _ _ _ c.retain.ensures.filtered in
    ap (λ blocks. heap_of inside.start inside.end blocks inside.freed.items) items ∙ ap recycled c.self.view_is
