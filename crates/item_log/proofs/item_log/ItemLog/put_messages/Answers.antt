use Rattle.item_log.proofs.Terms.{rules}
use Rattle.item_log.proofs.item_log.ItemLog.put_messages.Goals as goal

pub returns : goal.returns
returns c = search rules
