use Rattle.item_log.proofs.Terms.{rules}
use Rattle.item_log.proofs.item_log.ItemLog.open.Goals as goal

pub returns-in_err-push_bare : goal.returns-in_err-push_bare
returns-in_err-push_bare c = search rules
