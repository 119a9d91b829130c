use Rattle.guest_cpu.proofs.RunLemmas.{runs_serve}
use Rattle.guest_cpu.proofs.laws.runs_serve.Goals as goal

pub returns : goal.returns
returns c = runs_serve
