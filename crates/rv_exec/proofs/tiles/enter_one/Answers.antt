use Rattle.rv_exec.proofs.EntryLoop.{went_none}
use Rattle.rv_exec.proofs.tiles.enter_one.Goals as goal

pub returns-clause-gone : goal.returns-clause-gone
returns-clause-gone g c = went_none (g.R.AccessRule.rule c.args.rule.now) c.args.book.now c.args.start c.args.count c.args.number c.args.x.now c.args.x.now c.enter_as-next.new.x c.args.space.now c.args.space.now c.enter_as-next.new.space c.enter_as-next.result c.enter_as-next.ensures.done
