use Rattle.trunk_text.proofs.RunLemmas as lemmas
use Rattle.trunk_text.proofs.laws.calls_run.Goals as goal

pub returns : goal.returns
returns c = lemmas.calls_run
