use Rattle.guest_cpu.proofs.WritingOnce.{writes_once}
use Rattle.guest_cpu.proofs.laws.writes_once.Goals as goal

pub returns : goal.returns
returns c = writes_once
