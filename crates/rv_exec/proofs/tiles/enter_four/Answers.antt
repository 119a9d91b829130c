use Rattle.rv_exec.proofs.Terms.{arith, rules, subst, ◌+◌, ◌≡◌, HasOp}
use Rattle.rv_exec.proofs.EntryLoop.{went_none, went_next}
use Rattle.rv_exec.proofs.tiles.enter_four.Goals as goal

pub returns-in-Behind-clause-gone : goal.returns-in-Behind-clause-gone
returns-in-Behind-clause-gone g c = went_next (g.R.AccessRule.rule c.args.rule.now) c.args.book.now c.args.start c.args.count c.args.number c.enter_three-rest.result.behind c.args.x.now c.enter_as.new.x c.enter_three-rest.new.x c.args.space.now c.enter_as.new.space c.enter_three-rest.new.space c.enter_three-rest.result.next c.enter_as.result c.in-Behind.is c.enter_as.ensures.code c.enter_as.ensures.done c.enter_three-rest.ensures.gone

pub returns-in_default : goal.returns-in_default
returns-in_default g c = record {
  code = search rules;
  holds = search rules;
  gone = went_none (g.R.AccessRule.rule c.args.rule.now) c.args.book.now c.args.start c.args.count c.args.number c.args.x.now c.args.x.now c.enter_as.new.x c.args.space.now c.args.space.now c.enter_as.new.space c.enter_as.result c.enter_as.ensures.done;
  counted = search rules;
}

pub enter_three-rest-requires-clause-all : goal.enter_three-rest-requires-clause-all
enter_three-rest-requires-clause-all g c =
    let there = c.requires.all.there in
    let e : c.args.number + 2 ≡ c.args.number + 1 + 1 = omega arith in
    let f : c.args.number + 3 ≡ c.args.number + 1 + 2 = omega arith in
    record {
      there = omega (arith, there);
      first = c.requires.all.second;
      second = subst (λ n. HasOp c.args.entries.now n c.args.third) e c.requires.all.third;
      third = subst (λ n. HasOp c.args.entries.now n c.args.fourth) f c.requires.all.fourth;
    }
