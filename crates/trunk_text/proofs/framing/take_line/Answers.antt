use Rattle.trunk_text.proofs.Terms.{[], arith, length, ◌∷◌, ◌≤◌, took_more, MAX_LINE}
use Rattle.trunk_text.proofs.framing.take_line.Goals as goal

-- The byte that there was no memory for was taken.
pub returns-in-Err-push-clause-line : goal.returns-in-Err-push-clause-line
returns-in-Err-push-clause-line g c =
    let short : length c.bytes.line.items ≤ MAX_LINE = omega (arith, c.len.ensures, c.bytes-test.true) in (
      c.bytes.line.items,
      c.in-Ok-Some.byte ∷ [],
      record { bare = c.bytes.invariant.bare; short = short },
      omega arith,
      took_more (g.S.Source.told c.args.source.now) (g.S.Source.told c.bytes.source) (g.S.Source.told c.take_byte.new.source) c.bytes.line.items (c.in-Ok-Some.byte ∷ [])
          c.bytes.invariant.took (rw c.in-Ok-Some.field-0-is at c.in-Ok-Some.ensures.byte),
    )
