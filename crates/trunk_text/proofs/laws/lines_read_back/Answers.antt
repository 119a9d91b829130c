use Rattle.trunk_text.proofs.LineLemmas as lemmas
use Rattle.trunk_text.proofs.laws.lines_read_back.Goals as goal

pub returns : goal.returns
returns c = lemmas.lines_read_back
