use Rattle.trunk_text.proofs.Terms.{[], arith, ◌∷◌, took_more}
use Rattle.trunk_text.proofs.unframing.take_up_to.Goals as goal

-- The byte that there was no memory for was taken.
pub returns-in-Err-push-clause-bytes : goal.returns-in-Err-push-clause-bytes
returns-in-Err-push-clause-bytes g c = (
  c.bytes.bytes.items,
  c.in-Ok-Some.byte ∷ [],
  omega (arith, c.len.ensures, c.bytes-test.true),
  omega arith,
  took_more (g.S.Source.told c.args.source.now) (g.S.Source.told c.bytes.source) (g.S.Source.told c.take_byte.new.source) c.bytes.bytes.items (c.in-Ok-Some.byte ∷ [])
      c.bytes.invariant.took (rw c.in-Ok-Some.field-0-is at c.in-Ok-Some.ensures.byte),
)
