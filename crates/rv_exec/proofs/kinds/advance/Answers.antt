use Rattle.rv_exec.proofs.EntryLoop.{may_again, runs_as, runs_join}
use Rattle.rv_exec.proofs.kinds.advance.Goals as goal

pub run_anew-requires : goal.run_anew-requires
run_anew-requires g c = record { may = may_again c.requires.may c.enter_kind.ensures c.if-limit-count.false }

pub returns-then-enter_kind : goal.returns-then-enter_kind
returns-then-enter_kind g c = runs_as c.if-enter_kind.true c.enter_kind.ensures

pub returns : goal.returns
returns g c = runs_join c.run_anew.result c.enter_kind.ensures c.run_anew.ensures
