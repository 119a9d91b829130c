use Rattle.heap_guard.proofs.Guarding.{keeps_to_extents}
use Rattle.heap_guard.proofs.laws.extent_runs_keep.Goals as goal

pub returns : goal.returns
returns c = λ limits items plan image now guards served. keeps_to_extents limits items plan image now guards
