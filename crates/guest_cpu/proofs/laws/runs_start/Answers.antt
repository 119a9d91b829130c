use Rattle.guest_cpu.proofs.RunLemmas.{runs_start}
use Rattle.guest_cpu.proofs.laws.runs_start.Goals as goal

pub returns : goal.returns
returns c = runs_start
