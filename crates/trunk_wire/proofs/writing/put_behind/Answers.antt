use Rattle.trunk_wire.proofs.Terms.{ap, arith, length, take, ◌++◌, ◌+◌, ◌-◌, ◌∙◌, ◌≡◌, ◌≤◌, take_all}
use Rattle.trunk_wire.proofs.CallLemmas.{take-put_mid_front}
use Rattle.trunk_wire.proofs.writing.put_behind.Goals as goal

pub returns-clause-bytes : goal.returns-clause-bytes
returns-clause-bytes c =
    let n = length c.args.bytes.now in
    rw c.copy_from_slice.ensures.after (take-put_mid_front c.args.at (c.args.at + n - c.args.at) n c.args.all.now c.args.bytes.now (omega (arith, c.requires)) (omega arith)
    ∙ ap (λ l. take c.args.at c.args.all.now ++ l) (take_all n c.args.bytes.now (omega arith)))
