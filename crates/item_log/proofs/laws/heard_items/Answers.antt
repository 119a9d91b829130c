use Rattle.item_log.proofs.Hearing as lemmas
use Rattle.item_log.proofs.laws.heard_items.Goals as goal

pub returns : goal.returns
returns c = lemmas.heard_items
