use Rattle.item_log.proofs.Shown as lemmas
use Rattle.item_log.proofs.laws.shown_items.Goals as goal

pub returns : goal.returns
returns c = lemmas.shown_items
