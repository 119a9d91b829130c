use Rattle.run_history.proofs.Outputs.{longer_output}
use Rattle.run_history.proofs.laws.outputs_grow.Goals as goal

pub returns : goal.returns
returns c = longer_output
