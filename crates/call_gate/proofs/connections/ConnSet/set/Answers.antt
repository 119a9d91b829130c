use Rattle.std.proofs.Common.{ap, arith, length, set, sym, ◌/◌, ◌<◌, ◌∙◌, ◌≤◌}
use Rattle.call_gate.proofs.Flags.{with_bit, without_bit, flags_kept}
use Rattle.call_gate.proofs.connections.ConnSet.set.Goals as goal

pub returns-then-may : goal.returns-then-may
returns-then-may c =
    let there : c.args.conn / 64 < length c.self.inside.words.items = omega (arith, c.if-word-len.true, c.len.ensures) in
    with_bit _ _ c.args.conn _ c.self.view_is there c.index_mut.ensures.value ∙ ap (set c.args.self.now c.args.conn) (sym c.if-may.true)

pub returns-else-may : goal.returns-else-may
returns-else-may c =
    let there : c.args.conn / 64 < length c.self.inside.words.items = omega (arith, c.if-word-len.true, c.len.ensures) in
    without_bit _ _ c.args.conn _ c.self.view_is there c.index_mut-else-may.ensures.value ∙ ap (set c.args.self.now c.args.conn) (sym c.if-may.false)

pub returns-else-word-len : goal.returns-else-word-len
returns-else-word-len c =
    let past : length c.self.inside.words.items ≤ c.args.conn / 64 = omega (arith, c.if-word-len.false, c.len.ensures) in
    sym c.self.view_is ∙ flags_kept _ c.args.conn c.args.may past ∙ ap (λ fs. set fs c.args.conn c.args.may) c.self.view_is
