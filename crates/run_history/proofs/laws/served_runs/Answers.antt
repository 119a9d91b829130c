use Rattle.run_history.proofs.Serves.{served_is_run}
use Rattle.run_history.proofs.laws.served_runs.Goals as goal

pub returns : goal.returns
returns c = served_is_run
