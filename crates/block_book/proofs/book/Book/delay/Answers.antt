use Rattle.block_book.proofs.Terms.{List, Some, ap, length, map, slice_get, subst, sym, ◌<◌, ◌∙◌, ◌≡◌, slice_get-get_or, Block, IsHeap, delayed_at, heap_of, live_at, remembering, with_delayed, FindsLive}
use Rattle.block_book.proofs.Sound.{sound-delayed, put_off}
use Rattle.block_book.proofs.Finding.{live-found}
use Rattle.block_book.proofs.book.Book.delay.Goals as goal

pub invariant_of-self : goal.invariant_of-self
invariant_of-self c =
    let inside = c.self.inside in
    let heap = heap_of inside.start inside.end inside.blocks.items inside.freed.items in
    let found : FindsLive heap c.args.at (Some c.in-Some.place) = subst (λ h. FindsLive h c.args.at (Some c.in-Some.place)) (sym c.self.view_is) c.in-Some.ensures in
    let within : c.in-Some.place < length heap.blocks = found.1 in
    let is = slice_get-get_or heap.blocks c.in-Some.place c.index_mut.result.now within ∙ ap Some (sym c.index_mut.ensures.value) in
    let items = put_off heap c.args.at c.in-Some.place c.index_mut.result.now c.self.invariant.0 found is in (
      subst (λ blocks. IsHeap (heap_of inside.start inside.end blocks inside.freed.items)) (sym items) (sound-delayed heap c.args.at heap.freed c.self.invariant.0),
      c.self.invariant.1,
      c.self.invariant.2,
      c.self.invariant.3,
    )

pub returns-clause-delayed : goal.returns-clause-delayed
returns-clause-delayed c =
    let inside = c.self.inside in
    let heap = heap_of inside.start inside.end inside.blocks.items inside.freed.items in
    let put : List Block = map (delayed_at c.args.at) heap.blocks in
    let found : FindsLive heap c.args.at (Some c.in-Some.place) = subst (λ h. FindsLive h c.args.at (Some c.in-Some.place)) (sym c.self.view_is) c.in-Some.ensures in
    let within : c.in-Some.place < length heap.blocks = found.1 in
    let is = slice_get-get_or heap.blocks c.in-Some.place c.index_mut.result.now within ∙ ap Some (sym c.index_mut.ensures.value) in
    let items = put_off heap c.args.at c.in-Some.place c.index_mut.result.now c.self.invariant.0 found is in
    let read : slice_get heap.blocks c.in-Some.place ≡ Some c.index-block.result.now = slice_get-get_or heap.blocks c.in-Some.place c.index-block.result.now within ∙ ap Some (sym c.index-block.ensures) in
    let live : live_at heap c.args.at ≡ Some c.index-block.result.now = live-found heap c.args.at c.in-Some.place c.index-block.result.now c.self.invariant.0 found read in
    c.remember.ensures
    ∙ ap (λ blocks. heap_of inside.start inside.end blocks (remembering (Some c.index-block.result.now) c.args.by heap.freed)) items
    ∙ ap (λ block. heap_of inside.start inside.end put (remembering block c.args.by heap.freed)) (sym live)
    ∙ ap (λ h. with_delayed h c.args.at c.args.by) c.self.view_is
