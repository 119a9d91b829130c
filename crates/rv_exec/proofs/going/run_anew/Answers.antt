use Rattle.rv_exec.proofs.Terms.{arith, ◌+◌, ◌≡◌}
use Rattle.rv_exec.proofs.EntryLoop.{lands_at, runs_on, went_none}
use Rattle.rv_exec.proofs.going.run_anew.Goals as goal

pub go_on-requires-clause-lands : goal.go_on-requires-clause-lands
go_on-requires-clause-lands g c = lands_at (went_none (g.R.AccessRule.rule c.args.rule.now) c.args.book.now c.args.start c.args.count c.args.number.now c.args.x.now c.args.x.now c.enter_anew-next.new.x c.args.space.now c.args.space.now c.enter_anew-next.new.space c.enter_anew-next.result c.enter_anew-next.ensures.done)

pub returns : goal.returns
returns g c =
    let none : c.args.steps.now ≡ c.args.steps.now + 0 = omega arith in
    runs_on c.go_on.result c.requires.may.enough
    (went_none (g.R.AccessRule.rule c.args.rule.now) c.args.book.now c.args.start c.args.count c.args.number.now c.args.x.now c.args.x.now c.enter_anew-next.new.x c.args.space.now c.args.space.now c.enter_anew-next.new.space c.enter_anew-next.result c.enter_anew-next.ensures.done)
    c.enter_anew-next.ensures.code none c.enter_anew-next.ensures.holds c.go_on.ensures.to c.go_on.ensures.counted c.go_on.ensures.goes
