use Rattle.session_state.proofs.recovering.TableLemmas.{counted_alone}
use Rattle.telling.proofs.serving.serve_told.Goals as goal

pub returns-clause-served : goal.returns-clause-served
returns-clause-served g c = counted_alone c.args.steps.now c.serve_watched_told.new.steps c.serve_watched_told.ensures.served
