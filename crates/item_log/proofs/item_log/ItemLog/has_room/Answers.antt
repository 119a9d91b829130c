use Rattle.item_log.proofs.Terms.{rules}
use Rattle.item_log.proofs.item_log.ItemLog.has_room.Goals as goal

pub returns : goal.returns
returns c = search rules
