use Rattle.std.specs.Result.{is_ok}
use Rattle.std.specs.Vec.{vec_len, vec_capacity}
use Rattle.block_book.proofs.Terms.{ap, arith, if◌then◌else◌, subst, sym, true, ◌<◌, ◌∙◌, ◌≡◌, insert, IsHeap, heap_of, with_block, HasRoom, passed}
use Rattle.block_book.proofs.Sound.{sound-with, inserted}
use Rattle.block_book.proofs.book.Book.add.Goals as goal

pub invariant_of-self : goal.invariant_of-self
invariant_of-self c =
    let inside = c.self.inside in
    let heap = heap_of inside.start inside.end inside.blocks.items inside.freed.items in
    let room : HasRoom heap c.args.block = subst (λ h. HasRoom h c.args.block) (sym c.self.view_is) c.requires in
    let place : c.passed-place.result ≡ passed heap.blocks c.args.block.at = subst (λ h. c.passed-place.result ≡ passed h.blocks c.args.block.at) (sym c.self.view_is) c.passed-place.ensures.value in
    let few : vec_len inside.blocks < vec_capacity inside.blocks = omega (arith, room.few, c.self.invariant.1) in
    let done : is_ok c.insert.result ≡ true = c.insert.ensures.succeeds few in
    let items = c.insert.ensures.items ∙ ap (λ b. if b then insert heap.blocks c.passed-place.result c.args.block else heap.blocks) done ∙ inserted heap c.args.block c.passed-place.result c.self.invariant.0 room place in (
      subst (λ blocks. IsHeap (heap_of inside.start inside.end blocks inside.freed.items)) (sym items) (sound-with heap c.args.block c.self.invariant.0 room),
      omega (arith, c.self.invariant.1, c.insert.ensures.capacity),
      c.self.invariant.2,
      c.self.invariant.3,
    )

pub returns : goal.returns
returns c =
    let inside = c.self.inside in
    let heap = heap_of inside.start inside.end inside.blocks.items inside.freed.items in
    let room : HasRoom heap c.args.block = subst (λ h. HasRoom h c.args.block) (sym c.self.view_is) c.requires in
    let place : c.passed-place.result ≡ passed heap.blocks c.args.block.at = subst (λ h. c.passed-place.result ≡ passed h.blocks c.args.block.at) (sym c.self.view_is) c.passed-place.ensures.value in
    let few : vec_len inside.blocks < vec_capacity inside.blocks = omega (arith, room.few, c.self.invariant.1) in
    let done : is_ok c.insert.result ≡ true = c.insert.ensures.succeeds few in
    let items = c.insert.ensures.items ∙ ap (λ b. if b then insert heap.blocks c.passed-place.result c.args.block else heap.blocks) done ∙ inserted heap c.args.block c.passed-place.result c.self.invariant.0 room place in
    ap (λ blocks. heap_of inside.start inside.end blocks inside.freed.items) items ∙ ap (λ h. with_block h c.args.block) c.self.view_is
