use Rattle.item_log.proofs.Terms.{None, refl}
use Rattle.item_log.proofs.Watch.{watched-set}
use Rattle.item_log.proofs.connections.Connections.close.Goals as goal

pub returns : goal.returns
returns c = rw (← c.self.view_is) (watched-set c.self.inside.framing c.self.inside.framers.items c.args.conn None None refl)
