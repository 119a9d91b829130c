use Rattle.rv_exec.proofs.Terms.{rules}
use Rattle.rv_exec.proofs.EntryLoop.{went_none, went_one}
use Rattle.rv_exec.proofs.tiles.enter_two.Goals as goal

pub returns-in-Behind-clause-gone : goal.returns-in-Behind-clause-gone
returns-in-Behind-clause-gone g c = went_one (g.R.AccessRule.rule c.args.rule.now) c.args.book.now c.args.start c.args.count c.args.number c.args.x.now c.enter_as.new.x c.enter_as-next.new.x c.args.space.now c.enter_as.new.space c.enter_as-next.new.space c.enter_as-next.result c.enter_as.result c.in-Behind.is c.enter_as.ensures.code c.enter_as.ensures.done c.enter_as-next.ensures.done

pub returns-in_default : goal.returns-in_default
returns-in_default g c = record {
  code = search rules;
  holds = search rules;
  gone = went_none (g.R.AccessRule.rule c.args.rule.now) c.args.book.now c.args.start c.args.count c.args.number c.args.x.now c.args.x.now c.enter_as.new.x c.args.space.now c.args.space.now c.enter_as.new.space c.enter_as.result c.enter_as.ensures.done;
  counted = search rules;
}
