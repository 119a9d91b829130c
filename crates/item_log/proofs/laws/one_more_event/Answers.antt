use Rattle.item_log.proofs.Hearing as lemmas
use Rattle.item_log.proofs.laws.one_more_event.Goals as goal

pub returns : goal.returns
returns c = lemmas.one_more_event
