use Rattle.block_book.proofs.Terms.{arith, length, subst, sym, true, ◌<◌, ◌∙◌, ◌≡◌, Heap, IsHeap, is_bare, most_blocks}
use Rattle.block_book.proofs.Rooms.{put-room, bare-insert}
use Rattle.block_book.proofs.book.Book.put.Goals as goal

pub add-requires : goal.add-requires
add-requires c =
    let heap = c.args.self.now in
    let sound : IsHeap heap = subst IsHeap c.self.view_is c.self.invariant.0 in
    let few : length heap.blocks < most_blocks = subst (λ (h : Heap). length h.blocks < most_blocks) c.self.view_is (omega arith) in
    put-room heap c.args.at c.args.size c.args.made sound c.requires few (sym c.clear_of_live.ensures ∙ c.if-not-clear_of_live.false)

pub returns-clause-bare : goal.returns-clause-bare
returns-clause-bare c =
    subst (λ (h : Heap). is_bare h ≡ true) (sym c.add.ensures) (bare-insert c.args.at c.args.size c.args.made c.args.self.now.blocks c.requires)
