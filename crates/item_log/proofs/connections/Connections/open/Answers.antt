use Rattle.item_log.proofs.Terms.{Some, [], ap}
use Rattle.item_log.proofs.Watch.{watched-set}
use Rattle.item_log.proofs.connections.Connections.open.Goals as goal

pub returns : goal.returns
returns c = rw (← c.self.view_is) (watched-set c.self.inside.framing c.self.inside.framers.items c.args.conn (Some c.make.result) (Some []) (ap (λ rest. Some rest) c.make.ensures.rest))
