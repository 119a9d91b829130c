use Rattle.rv_exec.proofs.Terms.{arith, refl, rules, ◌-◌}
use Rattle.rv_exec.proofs.QuickLemmas.{ran_none}
use Rattle.rv_exec.proofs.EntryLoop.{counted_none, counted_on, enough_on, falls_further, first_regs, first_zero, may_again, ran_as}
use Rattle.rv_exec.proofs.straight.run_straight.Goals as goal

pub run-init : goal.run-init
run-init g c =
    let place = c.requires.place in
    let many = c.code_len-count.ensures in
    let w = place.within in
    let enough = c.requires.enough in
    let room = c.requires.room in
    record {
      counted = counted_none (first_regs c.args.regs.now.pc c.code_start-start.result c.args.space.now.code.start c.args.first c.with_last-x.result c.args.regs.now.x c.requires.counter c.code_start-start.ensures c.with_last-x.ensures);
      may = record {
        code = search rules;
        place = record { start_is = c.code_start-start.ensures; count_is = omega (arith, many); within = omega (arith, many, w) };
        zero = first_zero c.with_last-x.result c.args.regs.now.x c.with_last-x.ensures c.requires.zero;
        holds = c.requires.holds;
        enough = omega (arith, many, enough);
        room = omega (arith, many, room);
      };
    }

pub run-preserved : goal.run-preserved
run-preserved g c = record {
  counted = counted_on c.run.invariant.counted c.advance.ensures.ran;
  may = may_again c.run.invariant.may c.advance.ensures (enough_on c.advance.result c.if-not-advance.false c.advance.ensures);
}

pub run-smaller : goal.run-smaller
run-smaller g c = falls_further (c.code_len-count.result - 1) c.run.number c.advance.new.number c.run.limit c.advance.new.limit c.advance.result c.if-not-advance.false c.advance.ensures.goes c.run.invariant.counted.inside c.advance.ensures.ran.inside

pub returns-in-Err-clause-ran : goal.returns-in-Err-clause-ran
returns-in-Err-clause-ran g c = ran_none (g.R.AccessRule.rule c.args.rule.now) c.args.book.now c.args.regs.now c.args.space.now

pub returns-clause-ran : goal.returns-clause-ran
returns-clause-ran g c =
    let counted = counted_on c.run.invariant.counted c.advance.ensures.ran in
    ran_as (g.R.AccessRule.rule c.args.rule.now) c.args.book.now _ _ c.args.regs.now c.args.space.now c.code_start-start.result c.advance.new.number c.advance.new.number c.counter_of-regs.result c.advance.new.x c.without_last-regs.result c.advance.new.space refl refl c.counter_of-regs.ensures c.without_last-regs.ensures counted.ran

pub returns-clause-counted : goal.returns-clause-counted
returns-clause-counted g c = let counted = counted_on c.run.invariant.counted c.advance.ensures.ran in counted.counts
