use Rattle.item_log.proofs.Terms.{arith, ◌≡◌, CONNECTIONS}
use Rattle.item_log.proofs.Watch.{rests_of-none}
use Rattle.item_log.proofs.connections.Connections.make.Goals as goal

pub returns-clause-rests : goal.returns-clause-rests
returns-clause-rests c =
    let all : c.loop-i._i ≡ CONNECTIONS = omega arith in
    rw (c.loop-i.invariant, all) rests_of-none
