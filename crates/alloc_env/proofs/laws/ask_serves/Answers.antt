use Rattle.alloc_env.proofs.Mallocs.{ask-serves}
use Rattle.alloc_env.proofs.laws.ask_serves.Goals as goal

pub returns : goal.returns
returns c = ask-serves
