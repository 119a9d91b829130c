use Rattle.alloc_env.proofs.Terms.{ap, ◌^◌, ◌∙◌, le-ltb, bytes_asked, recycled}
use Rattle.alloc_env.proofs.Mallocs.{IsSized, block-many, block-first, block-again, block-null}
use Rattle.alloc_env.proofs.serving.new_block.Goals as goal

pub returns-in_default-clause-answer : goal.returns-in_default-clause-answer
returns-in_default-clause-answer c = block-many c.args.env c.args.book.now c.args.site c.args.ask (le-ltb (bytes_asked c.args.ask) (2 ^ 32) c.in_default.ensures)

pub returns-in-Some-place_by-clause-answer : goal.returns-in-Some-place_by-clause-answer
returns-in-Some-place_by-clause-answer c =
    let sized : IsSized c.args.ask c.in-Some.size = record { is = c.in-Some.ensures.0; few = c.in-Some.ensures.1 } in
    block-first c.args.env c.args.book.now c.place_by.new.book c.args.site c.args.ask c.in-Some.size c.in-Some-place_by.at c.zeroes-zeroed.result sized
    c.zeroes-zeroed.ensures c.in-Some-place_by.ensures.answer c.in-Some-place_by.ensures.placed

pub returns-in-Some-place_by-2-clause-answer : goal.returns-in-Some-place_by-2-clause-answer
returns-in-Some-place_by-2-clause-answer c =
    let sized : IsSized c.args.ask c.in-Some.size = record { is = c.in-Some.ensures.0; few = c.in-Some.ensures.1 } in
    let emptied = c.recycle.ensures.recycled ∙ ap recycled c.in_default-place_by.ensures.placed in
    block-again c.args.env c.args.book.now c.recycle.new.self c.place_by-2.new.book c.args.site c.args.ask c.in-Some.size c.in-Some-place_by-2.at c.zeroes-zeroed.result sized
    c.zeroes-zeroed.ensures c.in_default-place_by.ensures.answer emptied c.in-Some-place_by-2.ensures.answer c.in-Some-place_by-2.ensures.placed

pub returns-in-None-clause-answer : goal.returns-in-None-clause-answer
returns-in-None-clause-answer c =
    let sized : IsSized c.args.ask c.in-Some.size = record { is = c.in-Some.ensures.0; few = c.in-Some.ensures.1 } in
    let emptied = c.recycle.ensures.recycled ∙ ap recycled c.in_default-place_by.ensures.placed in
    block-null c.args.env c.args.book.now c.recycle.new.self c.place_by-2.new.book c.args.site c.args.ask c.in-Some.size sized
    c.in_default-place_by.ensures.answer emptied c.in-None.ensures.answer c.in-None.ensures.placed
