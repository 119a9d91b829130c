use Rattle.block_book.proofs.Terms.{ap, arith, length, subst, sym, ◌*◌, ◌+◌, ◌<◌, ◌∙◌, ◌≡◌, ◌≤◌, option_map, reserved_size, Heap, most_blocks, fit}
use Rattle.block_book.proofs.Sizes.{reserved-least}
use Rattle.block_book.proofs.Fitting.{fit-fits}
use Rattle.block_book.proofs.Rooms.{placement-full, placement-fit, place-room}
use Rattle.block_book.proofs.book.Book.place.Goals as goal

pub returns-then-len-ge-MOST_BLOCKS-clause-answer : goal.returns-then-len-ge-MOST_BLOCKS-clause-answer
returns-then-len-ge-MOST_BLOCKS-clause-answer c =
    let heap = c.args.self.now in
    let full : most_blocks ≤ length heap.blocks = subst (λ (h : Heap). most_blocks ≤ length h.blocks) c.self.view_is (omega arith) in
    sym (placement-full heap c.args.size c.args.side c.args.from full)

pub lowest_fit-requires-clause-some : goal.lowest_fit-requires-clause-some
lowest_fit-requires-clause-some c = omega (arith, c.reserved_size.ensures.value, reserved-least c.args.size)

pub returns-in_err-at-clause-answer : goal.returns-in_err-at-clause-answer
returns-in_err-at-clause-answer c =
    let heap = c.args.self.now in
    let few : length heap.blocks < most_blocks = subst (λ (h : Heap). length h.blocks < most_blocks) c.self.view_is (omega arith) in
    let count : c.reserved_size.result + 2 * c.from.result ≡ reserved_size c.args.size + 2 * c.args.side = omega (arith, c.reserved_size.ensures.value) in
    c.from_residual.ensures
    ∙ ap (option_map (λ extent. extent + c.args.side)) (c.in_err-at.ensures.answer ∙ ap (λ n. fit heap n c.args.from) count)
    ∙ sym (placement-fit heap c.args.size c.args.side c.args.from few)

pub add-requires : goal.add-requires
add-requires c =
    let heap = c.args.self.now in
    let few : length heap.blocks < most_blocks = subst (λ (h : Heap). length h.blocks < most_blocks) c.self.view_is (omega arith) in
    let count : c.reserved_size.result + 2 * c.from.result ≡ reserved_size c.args.size + 2 * c.args.side = omega (arith, c.reserved_size.ensures.value) in
    place-room heap c.args.size c.args.side c.args.from c.in_ok-at.field-0 c.args.made few c.requires.multiple c.requires.small
    (fit-fits heap (reserved_size c.args.size + 2 * c.args.side) c.args.from c.in_ok-at.field-0 (sym (c.in_ok-at.ensures.answer ∙ ap (λ n. fit heap n c.args.from) count)))

pub returns-clause-answer : goal.returns-clause-answer
returns-clause-answer c =
    let heap = c.args.self.now in
    let few : length heap.blocks < most_blocks = subst (λ (h : Heap). length h.blocks < most_blocks) c.self.view_is (omega arith) in
    let count : c.reserved_size.result + 2 * c.from.result ≡ reserved_size c.args.size + 2 * c.args.side = omega (arith, c.reserved_size.ensures.value) in
    ap (option_map (λ extent. extent + c.args.side)) (c.in_ok-at.ensures.answer ∙ ap (λ n. fit heap n c.args.from) count)
    ∙ sym (placement-fit heap c.args.size c.args.side c.args.from few)
