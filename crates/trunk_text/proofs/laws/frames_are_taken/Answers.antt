use Rattle.trunk_text.proofs.SpellLemmas as lemmas
use Rattle.trunk_text.proofs.laws.frames_are_taken.Goals as goal

pub returns : goal.returns
returns c = lemmas.frames_are_taken
