use Rattle.trunk_wire.proofs.Terms.{◌++◌, writes_more}
use Rattle.trunk_wire.proofs.CallLemmas.{Prefix-append, writes_all_behind}
use Rattle.trunk_wire.proofs.writing.write_behind.Goals as goal

pub returns-in-Err-clause-bytes : goal.returns-in-Err-clause-bytes
returns-in-Err-clause-bytes g c =
    let front = c.in-Err.ensures.bytes in
    (front.0, Prefix-append front.0 c.args.header c.args.bytes.now front.1, front.2)

pub returns-clause-bytes : goal.returns-clause-bytes
returns-clause-bytes g c = writes_all_behind _ _ _ _ _ _ c.args.header c.args.bytes.now c.write_all-3.result c.in-Ok.ensures.bytes c.write_all-3.ensures.bytes
