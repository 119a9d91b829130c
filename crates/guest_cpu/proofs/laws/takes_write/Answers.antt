use Rattle.guest_cpu.proofs.TakeLemmas.{takes_write}
use Rattle.guest_cpu.proofs.laws.takes_write.Goals as goal

pub returns : goal.returns
returns c = takes_write
