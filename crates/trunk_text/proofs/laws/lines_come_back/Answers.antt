use Rattle.trunk_text.proofs.SpellLemmas as lemmas
use Rattle.trunk_text.proofs.laws.lines_come_back.Goals as goal

pub returns : goal.returns
returns c = lemmas.lines_come_back
