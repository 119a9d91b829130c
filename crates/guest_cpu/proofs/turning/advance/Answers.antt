use Rattle.guest_cpu.proofs.Terms.{refl, rules, ◌<◌, flat, limits_of, standing}
use Rattle.guest_cpu.proofs.MeetLemmas.{still}
use Rattle.guest_cpu.proofs.TurnLemmas.{turn_hangs, turned_in, sends_in, windows_there}
use Rattle.guest_cpu.proofs.turning.advance.Goals as goal

pub returns-then-core-budget-clause-turned : goal.returns-then-core-budget-clause-turned
returns-then-core-budget-clause-turned g c = still (turn_hangs (limits_of c.args.budget _) c.args.env (standing c.args.core.now (flat c.args.space.now)) (search rules))

pub returns-in-Ok-None-clause-turned : goal.returns-in-Ok-None-clause-turned
returns-in-Ok-None-clause-turned g c =
    let early : c.args.core.now.marks.since < c.args.budget = search rules in turned_in _ _ _ early (rw c.in-Ok-None.field-0-is at c.in-Ok-None.ensures.turned) (λ written wrote. record { written = written; turns = refl; wrote = wrote })

pub returns-in-Ok-Some-Asks-clause-turned : goal.returns-in-Ok-Some-Asks-clause-turned
returns-in-Ok-Some-Asks-clause-turned g c =
    let early : c.args.core.now.marks.since < c.args.budget = search rules in turned_in _ _ _ early (rw (c.in-Ok-Some-Asks.field-0-is, c.in-Ok-Some-Asks.field-0-0-is) at c.in-Ok-Some-Asks.ensures.turned) (λ written wrote. record { written = written; turns = refl; wrote = wrote })

pub returns-in-Ok-Some-Emits-clause-turned : goal.returns-in-Ok-Some-Emits-clause-turned
returns-in-Ok-Some-Emits-clause-turned g c =
    let early : c.args.core.now.marks.since < c.args.budget = search rules in turned_in _ _ _ early (rw (c.in-Ok-Some-Emits.field-0-is, c.in-Ok-Some-Emits.field-0-0-is) at c.in-Ok-Some-Emits.ensures.turned) (λ written wrote. record { written = written; turns = refl; wrote = wrote })

pub returns-in-Ok-Some-Exits-clause-turned : goal.returns-in-Ok-Some-Exits-clause-turned
returns-in-Ok-Some-Exits-clause-turned g c =
    let early : c.args.core.now.marks.since < c.args.budget = search rules in turned_in _ _ _ early (rw (c.in-Ok-Some-Exits.field-0-is, c.in-Ok-Some-Exits.field-0-0-is) at c.in-Ok-Some-Exits.ensures.turned) (λ written wrote. record { written = written; turns = refl; wrote = wrote })

pub returns-in-Ok-Some-Failed-clause-turned : goal.returns-in-Ok-Some-Failed-clause-turned
returns-in-Ok-Some-Failed-clause-turned g c =
    let early : c.args.core.now.marks.since < c.args.budget = search rules in turned_in _ _ _ early (rw (c.in-Ok-Some-Failed.field-0-is, c.in-Ok-Some-Failed.field-0-0-is) at c.in-Ok-Some-Failed.ensures.turned) (λ written wrote. record { written = written; turns = refl; wrote = wrote })

pub returns-in-Ok-Some-Allocates-clause-turned : goal.returns-in-Ok-Some-Allocates-clause-turned
returns-in-Ok-Some-Allocates-clause-turned g c =
    let early : c.args.core.now.marks.since < c.args.budget = search rules in
    let stays = rw (c.in-Ok-Some-Allocates.field-0-is, c.in-Ok-Some-Allocates.field-0-0-is) at c.in-Ok-Some-Allocates.ensures.lasts in
    turned_in _ _ _ early (rw (c.in-Ok-Some-Allocates.field-0-is, c.in-Ok-Some-Allocates.field-0-0-is) at c.in-Ok-Some-Allocates.ensures.turned) (λ written wrote. rw (stays.0, stays.1) at c.allocate.ensures.turned)

pub returns-in-Ok-Some-Frees-clause-turned : goal.returns-in-Ok-Some-Frees-clause-turned
returns-in-Ok-Some-Frees-clause-turned g c =
    let early : c.args.core.now.marks.since < c.args.budget = search rules in
    let stays = rw (c.in-Ok-Some-Frees.field-0-is, c.in-Ok-Some-Frees.field-0-0-is) at c.in-Ok-Some-Frees.ensures.lasts in
    turned_in _ _ _ early (rw (c.in-Ok-Some-Frees.field-0-is, c.in-Ok-Some-Frees.field-0-0-is) at c.in-Ok-Some-Frees.ensures.turned) (λ written wrote. rw stays.1 (still (rw stays.0 at c.free.ensures.turned (flat c.args.space.now))))

pub returns-in-Err-clause-turned : goal.returns-in-Err-clause-turned
returns-in-Err-clause-turned g c =
    let early : c.args.core.now.marks.since < c.args.budget = search rules in let lacks = c.in-Err.ensures.turned in (lacks.0, lacks.1, sends_in _ _ _ early lacks.2)

pub returns-in-Ok-Some-Asks-clause-holds : goal.returns-in-Ok-Some-Asks-clause-holds
returns-in-Ok-Some-Asks-clause-holds g c = windows_there (rw (c.in-Ok-Some-Asks.field-0-is, c.in-Ok-Some-Asks.field-0-0-is) at c.in-Ok-Some-Asks.ensures.stays) c.requires.holds

pub returns-in-Ok-Some-Emits-clause-holds : goal.returns-in-Ok-Some-Emits-clause-holds
returns-in-Ok-Some-Emits-clause-holds g c = windows_there (rw (c.in-Ok-Some-Emits.field-0-is, c.in-Ok-Some-Emits.field-0-0-is) at c.in-Ok-Some-Emits.ensures.stays) c.requires.holds

pub returns-in-Ok-Some-Frees-clause-holds : goal.returns-in-Ok-Some-Frees-clause-holds
returns-in-Ok-Some-Frees-clause-holds g c =
    let stays = rw (c.in-Ok-Some-Frees.field-0-is, c.in-Ok-Some-Frees.field-0-0-is) at c.in-Ok-Some-Frees.ensures.lasts in windows_there stays.1 c.requires.holds

pub returns-in-Ok-None-clause-holds : goal.returns-in-Ok-None-clause-holds
returns-in-Ok-None-clause-holds g c = c.forget.ensures c.meet.new.space

pub returns-in-Ok-Some-Allocates-clause-holds : goal.returns-in-Ok-Some-Allocates-clause-holds
returns-in-Ok-Some-Allocates-clause-holds g c = c.forget-in-Ok-Some-Allocates.ensures c.allocate.new.space

pub returns-in-Ok-Some-Exits-clause-holds : goal.returns-in-Ok-Some-Exits-clause-holds
returns-in-Ok-Some-Exits-clause-holds g c = c.forget-in-Ok-Some-Exits.ensures c.meet.new.space

pub returns-in-Ok-Some-Failed-clause-holds : goal.returns-in-Ok-Some-Failed-clause-holds
returns-in-Ok-Some-Failed-clause-holds g c = c.forget-in-Ok-Some-Failed.ensures c.meet.new.space

pub returns-in-Err-clause-holds : goal.returns-in-Err-clause-holds
returns-in-Err-clause-holds g c = c.forget-in-Err.ensures c.meet.new.space
