use Rattle.item_log.proofs.Hearing as lemmas
use Rattle.item_log.proofs.laws.refused_give_none.Goals as goal

pub returns : goal.returns
returns c = lemmas.refused_give_none
