use Rattle.alloc_env.proofs.Frees.{free-follows}
use Rattle.alloc_env.proofs.laws.free_follows.Goals as goal

pub returns : goal.returns
returns c = free-follows
