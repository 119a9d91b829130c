use Rattle.guest_cpu.proofs.TakeLemmas.{asks_wants}
use Rattle.guest_cpu.proofs.laws.asks_wants.Goals as goal

pub returns : goal.returns
returns c = asks_wants
