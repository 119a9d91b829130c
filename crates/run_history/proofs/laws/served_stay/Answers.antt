use Rattle.run_history.proofs.Serves.{served_more}
use Rattle.run_history.proofs.laws.served_stay.Goals as goal

pub returns : goal.returns
returns c = served_more
