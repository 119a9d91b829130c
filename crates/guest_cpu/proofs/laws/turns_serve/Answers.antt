use Rattle.guest_cpu.proofs.ServingLemmas.{turns_serve}
use Rattle.guest_cpu.proofs.laws.turns_serve.Goals as goal

pub returns : goal.returns
returns c = turns_serve
