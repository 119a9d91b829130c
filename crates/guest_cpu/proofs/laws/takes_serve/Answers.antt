use Rattle.guest_cpu.proofs.TakeLemmas.{takes_serve}
use Rattle.guest_cpu.proofs.laws.takes_serve.Goals as goal

pub returns : goal.returns
returns c = takes_serve
