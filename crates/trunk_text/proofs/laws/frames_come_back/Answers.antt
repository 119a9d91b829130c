use Rattle.trunk_text.proofs.ReturnLemmas as lemmas
use Rattle.trunk_text.proofs.laws.frames_come_back.Goals as goal

pub returns : goal.returns
returns c = lemmas.frames_come_back
