use Rattle.std.proofs.Common.{arith, length, ◌/◌, ◌<◌, ◌∙◌, ◌≤◌}
use Rattle.std.proofs.lemmas.Bool.{le-ltb}
use Rattle.call_gate.proofs.Flags.{read_flag, read_past}
use Rattle.call_gate.proofs.connections.ConnSet.has.Goals as goal

pub returns-then-word-len-clause-value : goal.returns-then-word-len-clause-value
returns-then-word-len-clause-value c =
    let there : c.args.conn / 64 < length c.self.inside.words.items = omega (arith, c.if-word-len.true, c.len.ensures) in
    read_flag _ _ c.args.conn c.index.result.now c.self.view_is there c.index.ensures

pub returns-else-word-len-clause-value : goal.returns-else-word-len-clause-value
returns-else-word-len-clause-value c =
    let past : length c.self.inside.words.items ≤ c.args.conn / 64 = omega (arith, c.if-word-len.false, c.len.ensures) in
    le-ltb _ _ c.if-word-len.false ∙ read_past _ _ c.args.conn c.self.view_is past
