use Rattle.trunk_text.proofs.SpellLemmas as lemmas
use Rattle.trunk_text.proofs.laws.plain_come_back.Goals as goal

pub returns : goal.returns
returns c = lemmas.plain_come_back
