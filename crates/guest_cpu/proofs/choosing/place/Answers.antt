use Rattle.std.specs.Prelude.{length}
use Rattle.guest_cpu.proofs.Terms.{arith, subst, sym, true, ◌∙◌, ◌≡◌, nat_lt, bytes_asked, is_clear, live_blocks, most_blocks}
use Rattle.guest_cpu.proofs.PlaceLemmas.{is_placed}
use Rattle.guest_cpu.proofs.ChoiceLemmas.{room_is, room_answer, placed_live}
use Rattle.guest_cpu.proofs.choosing.place.Goals as goal

pub unreachable-requires : goal.unreachable-requires
unreachable-requires c =
    let few = (is_placed c.args.book.now.start c.args.book.now.end (live_blocks c.args.book.now.blocks) c.args.choice.ask c.args.choice c.requires.allowed c.if-choice-eq0.false).few in
    omega (arith, few, c.in_default.ensures)

pub returns-then-not-put-clause-answer : goal.returns-then-not-put-clause-answer
returns-then-not-put-clause-answer c =
    let book = c.args.book.now in
    let choice = c.args.choice in
    let asked : c.in-Some.size ≡ bytes_asked choice.ask = c.in-Some.ensures.0 in
    let clear = (is_placed book.start book.end (live_blocks book.blocks) choice.ask choice c.requires.allowed c.if-choice-eq0.false).clear in
    sym c.if-not-put.true
    ∙ room_answer choice.at (nat_lt (length book.blocks) most_blocks) c.put.result c.if-choice-eq0.false
    (room_is (nat_lt (length book.blocks) most_blocks) (is_clear book.start book.end (live_blocks book.blocks) choice.at c.in-Some.size) c.put.result c.put.ensures.answer
    (subst (λ n. is_clear book.start book.end (live_blocks book.blocks) choice.at n ≡ true) (sym asked) clear))

pub returns-clause-live : goal.returns-clause-live
returns-clause-live c = λ done.
    placed_live c.args.book.now c.put.new.self c.release_over.new.book c.args.site c.args.choice c.in-Some.size c.sound.ensures.heap c.if-choice-eq0.false c.in-Some.ensures.0
    (rw c.if-not-put.false at c.put.ensures.added) c.release_over.ensures.heap
