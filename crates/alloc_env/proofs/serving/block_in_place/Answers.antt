use Rattle.alloc_env.proofs.Terms.{sym}
use Rattle.alloc_env.proofs.Mallocs.{block-keeps, in_place-null, in_place-some}
use Rattle.alloc_env.proofs.serving.block_in_place.Goals as goal

pub free_live-requires : goal.free_live-requires
free_live-requires c = block-keeps c.args.env c.args.book.now c.args.site c.args.ask _ c.args.old c.new_block-choice.ensures.heap c.new_block-choice.ensures.answer c.requires

pub returns-then-choice-eq0-clause-answer : goal.returns-then-choice-eq0-clause-answer
returns-then-choice-eq0-clause-answer c =
    in_place-null c.args.env c.args.book.now c.new_block-choice.new.book c.args.site c.args.ask c.args.old c.args.size c.new_block-choice.result c.new_block-choice.ensures.answer c.if-choice-eq0.true

pub returns-clause-answer : goal.returns-clause-answer
returns-clause-answer c =
    in_place-some c.args.env c.args.book.now c.new_block-choice.new.book c.free_live.new.book c.args.site c.args.ask c.args.old c.args.size c.carried_over-carried.result c.new_block-choice.result
    c.new_block-choice.ensures.answer c.if-choice-eq0.false c.carried_over-carried.ensures c.free_live.ensures.freed
