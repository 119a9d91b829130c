use Rattle.heap_guard.proofs.Guarding.{keeps_to_live}
use Rattle.heap_guard.proofs.laws.block_runs_keep.Goals as goal

pub returns : goal.returns
returns c = keeps_to_live
