use Rattle.guest_cpu.proofs.Terms.{refl, rules, live_blocks, flat, machine_of}
use Rattle.guest_cpu.proofs.ChoiceLemmas.{allowed_own, chose}
use Rattle.guest_cpu.proofs.choosing.choose.Goals as goal

pub place-requires : goal.place-requires
place-requires c = record {
  bare = search rules;
  allowed = allowed_own c.args.core.now.book.start c.args.core.now.book.end (live_blocks c.args.core.now.book.blocks) c.args.wanted c.args.choice (search rules);
}

pub set_block-requires : goal.set_block-requires
set_block-requires c = record {
  heap = c.args.core.now.book;
  sound = c.sound.ensures.heap;
  near = c.sound.ensures.within;
  has_heap = c.requires.heap;
  ask = c.args.choice.ask;
  allowed = allowed_own c.args.core.now.book.start c.args.core.now.book.end (live_blocks c.args.core.now.book.blocks) c.args.wanted c.args.choice (search rules);
  kept_is = c.kept_count-kept.ensures;
}

pub returns-clause-done : goal.returns-clause-done
returns-clause-done c =
    chose c.args.core.now c.answer.new.self c.place.new.book c.args.choice (flat c.args.space.now) (flat c.set_block.new.space) (search rules) (c.place.ensures.live (search rules)) c.place.ensures.ends
    (c.set_block.ensures (machine_of c.args.core.now (flat c.args.space.now)) refl c.kept_count-kept.ensures).0 c.answer.ensures

pub returns-clause-wrote : goal.returns-clause-wrote
returns-clause-wrote c = (c.set_block.ensures (machine_of c.args.core.now (flat c.args.space.now)) refl c.kept_count-kept.ensures).1
