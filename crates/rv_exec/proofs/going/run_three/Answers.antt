use Rattle.rv_exec.proofs.EntryLoop.{lands_at, runs_on}
use Rattle.rv_exec.proofs.going.run_three.Goals as goal

pub go_on-requires-clause-lands : goal.go_on-requires-clause-lands
go_on-requires-clause-lands g c = lands_at c.enter_three-gone.ensures.gone

pub returns : goal.returns
returns g c = runs_on c.go_on.result c.requires.may.enough c.enter_three-gone.ensures.gone c.enter_three-gone.ensures.code c.enter_three-gone.ensures.counted c.enter_three-gone.ensures.holds c.go_on.ensures.to c.go_on.ensures.counted c.go_on.ensures.goes
