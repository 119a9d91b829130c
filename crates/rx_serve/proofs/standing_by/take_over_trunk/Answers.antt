use Rattle.rx_serve.proofs.Lemmas.{faults_at, takes_at}
use Rattle.rx_serve.proofs.Terms.{rules}
use Rattle.rx_serve.proofs.standing_by.take_over_trunk.Goals as goal

pub returns-clause-takes : goal.returns-clause-takes
returns-clause-takes g c = takes_at (search rules) (search rules) (search rules) (search rules) c.take_over.ensures.takes

pub returns-clause-faults : goal.returns-clause-faults
returns-clause-faults g c = faults_at (search rules) (search rules) (search rules) (search rules) c.take_over.ensures.faults
