use Rattle.guest_cpu.proofs.RunLemmas.{runs_write}
use Rattle.guest_cpu.proofs.laws.runs_write.Goals as goal

pub returns : goal.returns
returns c = runs_write
