use Rattle.run_history.proofs.Runs.{run_more}
use Rattle.run_history.proofs.laws.runs_stay.Goals as goal

pub returns : goal.returns
returns c = run_more
