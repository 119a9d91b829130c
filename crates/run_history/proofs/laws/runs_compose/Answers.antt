use Rattle.run_history.proofs.Runs.{run_from}
use Rattle.run_history.proofs.laws.runs_compose.Goals as goal

pub returns : goal.returns
returns c = run_from
