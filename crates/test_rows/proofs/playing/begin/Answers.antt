use Rattle.test_rows.proofs.Ready.{ready}
use Rattle.test_rows.proofs.playing.begin.Goals as goal

pub returns : goal.returns
returns c = ready _ _ _ _ c.in_ok-begin.ensures
