use Rattle.block_book.proofs.Terms.{List, Some, ap, arith, eqb, filter, length, not, slice_get, subst, sym, true, ◌<◌, ◌∙◌, ◌≡◌, slice_get-get_or, Block, IsHeap, heap_of, is_bare, live_at, remembering, without_block, FindsLive}
use Rattle.block_book.proofs.Sound.{sound-filter, removed}
use Rattle.block_book.proofs.Rooms.{bare-filter}
use Rattle.block_book.proofs.Finding.{live-found}
use Rattle.block_book.proofs.book.Book.release.Goals as goal

pub invariant_of-self : goal.invariant_of-self
invariant_of-self c =
    let inside = c.self.inside in
    let heap = heap_of inside.start inside.end inside.blocks.items inside.freed.items in
    let found : FindsLive heap c.args.at (Some c.in-Some.place) = subst (λ h. FindsLive h c.args.at (Some c.in-Some.place)) (sym c.self.view_is) c.in-Some.ensures in
    let items = c.remove-block.ensures.items ∙ removed heap c.args.at c.in-Some.place c.self.invariant.0 found in (
      subst (λ blocks. IsHeap (heap_of inside.start inside.end blocks inside.freed.items)) (sym items) (sound-filter (λ (block : Block). not (eqb block.at c.args.at)) heap heap.freed c.self.invariant.0),
      omega (arith, c.self.invariant.1, c.remove-block.ensures.capacity),
      c.self.invariant.2,
      c.self.invariant.3,
    )

pub returns-clause-gone : goal.returns-clause-gone
returns-clause-gone c =
    let inside = c.self.inside in
    let heap = heap_of inside.start inside.end inside.blocks.items inside.freed.items in
    let gone : List Block = filter (λ (block : Block). not (eqb block.at c.args.at)) heap.blocks in
    let found : FindsLive heap c.args.at (Some c.in-Some.place) = subst (λ h. FindsLive h c.args.at (Some c.in-Some.place)) (sym c.self.view_is) c.in-Some.ensures in
    let items = c.remove-block.ensures.items ∙ removed heap c.args.at c.in-Some.place c.self.invariant.0 found in
    let within : c.in-Some.place < length heap.blocks = found.1 in
    let is : slice_get heap.blocks c.in-Some.place ≡ Some c.remove-block.result = slice_get-get_or heap.blocks c.in-Some.place c.remove-block.result within ∙ ap Some (sym c.remove-block.ensures.value) in
    let live : live_at heap c.args.at ≡ Some c.remove-block.result = live-found heap c.args.at c.in-Some.place c.remove-block.result c.self.invariant.0 found is in
    c.remember.ensures
    ∙ ap (λ blocks. heap_of inside.start inside.end blocks (remembering (Some c.remove-block.result) c.args.by heap.freed)) items
    ∙ ap (λ block. heap_of inside.start inside.end gone (remembering block c.args.by heap.freed)) (sym live)
    ∙ ap (λ h. without_block h c.args.at c.args.by) c.self.view_is

pub returns-clause-bare : goal.returns-clause-bare
returns-clause-bare c = λ bare.
    let inside = c.self.inside in
    let heap = heap_of inside.start inside.end inside.blocks.items inside.freed.items in
    let found : FindsLive heap c.args.at (Some c.in-Some.place) = subst (λ h. FindsLive h c.args.at (Some c.in-Some.place)) (sym c.self.view_is) c.in-Some.ensures in
    let items = c.remove-block.ensures.items ∙ removed heap c.args.at c.in-Some.place c.self.invariant.0 found in
    let before : is_bare heap ≡ true = subst (λ h. is_bare h ≡ true) (sym c.self.view_is) bare in
    subst (λ h. is_bare h ≡ true) (sym c.remember.ensures)
    (subst (λ blocks. is_bare (heap_of inside.start inside.end blocks inside.freed.items) ≡ true) (sym items) (bare-filter (λ (block : Block). not (eqb block.at c.args.at)) heap.blocks before))
