use Rattle.port_link.proofs.ShowLemmas.{none_yet}
use Rattle.port_link.proofs.place.fresh_stages.Goals as goal

pub returns-clause-each : goal.returns-clause-each
returns-clause-each c conn = none_yet 4096 conn
