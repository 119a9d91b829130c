use Rattle.guest_space.proofs.Terms.{refl, ◌-◌}
use Rattle.guest_space.proofs.CodeLemmas.{made_has_code}
use Rattle.guest_space.proofs.code.code_of.Goals as goal

pub returns-then-is_code : goal.returns-then-is_code
returns-then-is_code c =
    made_has_code c.args.base c.loop-span.span-index c.start-start.result (c.start-start.result - c.args.base) c.words_len.result c.args.spans.now c.span-item.result c.args.store.now c.table_at.result
    c.requires c.loop-span-test.true c.span-item.is c.if-is_code.ensures c.start-start.ensures refl c.words_len.ensures c.table_at.ensures
