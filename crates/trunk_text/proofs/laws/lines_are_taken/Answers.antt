use Rattle.trunk_text.proofs.ReturnLemmas as lemmas
use Rattle.trunk_text.proofs.laws.lines_are_taken.Goals as goal

pub returns : goal.returns
returns c = lemmas.lines_are_taken
