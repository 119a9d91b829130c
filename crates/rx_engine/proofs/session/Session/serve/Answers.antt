use Rattle.rx_engine.proofs.Terms.{counted_alone}
use Rattle.rx_engine.proofs.session.Session.serve.Goals as goal

pub returns-clause-served : goal.returns-clause-served
returns-clause-served g c = counted_alone c.args.steps.now c.serve_watched.new.steps c.serve_watched.ensures.served
