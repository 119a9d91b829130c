use Rattle.item_log.proofs.Shown as lemmas
use Rattle.item_log.proofs.laws.logs_show.Goals as goal

pub returns : goal.returns
returns c = lemmas.logs_show
