use Rattle.guest_cpu.proofs.Terms.{None, Some, ap, refl, rules, sym, ◌<◌, flat, standing, turn_to}
use Rattle.guest_cpu.proofs.MeetLemmas.{still}
use Rattle.guest_cpu.proofs.RecordTurns.{recorded_reached, turned_as, sends_as}
use Rattle.guest_cpu.proofs.recorded.advance_as_recorded.Goals as goal

pub returns-then-core-until-clause-turned : goal.returns-then-core-until-clause-turned
returns-then-core-until-clause-turned g c = still (recorded_reached c.args.until (standing c.args.core.now (flat c.args.space.now)) (search rules))

pub returns-in-Ok-None-clause-turned : goal.returns-in-Ok-None-clause-turned
returns-in-Ok-None-clause-turned g c =
    let early : c.args.core.now.marks.steps < c.args.until = search rules in turned_as _ _ early (rw c.in-Ok-None.field-0-is at c.in-Ok-None.ensures.turned) (λ written wrote. record { written = written; turns = refl; wrote = wrote })

pub returns-in-Ok-Some-Asks-clause-turned : goal.returns-in-Ok-Some-Asks-clause-turned
returns-in-Ok-Some-Asks-clause-turned g c =
    let early : c.args.core.now.marks.steps < c.args.until = search rules in turned_as _ _ early (rw (c.in-Ok-Some-Asks.field-0-is, c.in-Ok-Some-Asks.field-0-0-is) at c.in-Ok-Some-Asks.ensures.turned) (λ written wrote. record { written = written; turns = refl; wrote = wrote })

pub returns-in-Ok-Some-Emits-clause-turned : goal.returns-in-Ok-Some-Emits-clause-turned
returns-in-Ok-Some-Emits-clause-turned g c =
    let early : c.args.core.now.marks.steps < c.args.until = search rules in turned_as _ _ early (rw (c.in-Ok-Some-Emits.field-0-is, c.in-Ok-Some-Emits.field-0-0-is) at c.in-Ok-Some-Emits.ensures.turned) (λ written wrote. record { written = written; turns = refl; wrote = wrote })

pub returns-in-Ok-Some-Exits-clause-turned : goal.returns-in-Ok-Some-Exits-clause-turned
returns-in-Ok-Some-Exits-clause-turned g c =
    let early : c.args.core.now.marks.steps < c.args.until = search rules in turned_as _ _ early (rw (c.in-Ok-Some-Exits.field-0-is, c.in-Ok-Some-Exits.field-0-0-is) at c.in-Ok-Some-Exits.ensures.turned) (λ written wrote. record { written = written; turns = refl; wrote = wrote })

pub returns-in-Ok-Some-Failed-clause-turned : goal.returns-in-Ok-Some-Failed-clause-turned
returns-in-Ok-Some-Failed-clause-turned g c =
    let early : c.args.core.now.marks.steps < c.args.until = search rules in turned_as _ _ early (rw (c.in-Ok-Some-Failed.field-0-is, c.in-Ok-Some-Failed.field-0-0-is) at c.in-Ok-Some-Failed.ensures.turned) (λ written wrote. record { written = written; turns = refl; wrote = wrote })

pub returns-in-Ok-Some-Allocates-clause-turned : goal.returns-in-Ok-Some-Allocates-clause-turned
returns-in-Ok-Some-Allocates-clause-turned g c =
    let early : c.args.core.now.marks.steps < c.args.until = search rules in
    let stays = rw (c.in-Ok-Some-Allocates.field-0-is, c.in-Ok-Some-Allocates.field-0-0-is) at c.in-Ok-Some-Allocates.ensures.lasts in
    turned_as _ _ early (rw (c.in-Ok-Some-Allocates.field-0-is, c.in-Ok-Some-Allocates.field-0-0-is) at c.in-Ok-Some-Allocates.ensures.turned) (λ written wrote. rw (stays.0, stays.1) (still (ap (λ q. Some (turn_to (Some q) (standing c.args.core.now (flat c.args.space.now)) None)) (sym (rw stays.0 at c.wanted.ensures)))))

pub returns-in-Ok-Some-Frees-clause-turned : goal.returns-in-Ok-Some-Frees-clause-turned
returns-in-Ok-Some-Frees-clause-turned g c =
    let early : c.args.core.now.marks.steps < c.args.until = search rules in
    let stays = rw (c.in-Ok-Some-Frees.field-0-is, c.in-Ok-Some-Frees.field-0-0-is) at c.in-Ok-Some-Frees.ensures.lasts in
    turned_as _ _ early (rw (c.in-Ok-Some-Frees.field-0-is, c.in-Ok-Some-Frees.field-0-0-is) at c.in-Ok-Some-Frees.ensures.turned) (λ written wrote. rw stays.1 (still (ap (λ t. Some t) (rw stays.0 at c.release.ensures.turned (flat c.args.space.now)))))

pub returns-in-Err-clause-turned : goal.returns-in-Err-clause-turned
returns-in-Err-clause-turned g c =
    let early : c.args.core.now.marks.steps < c.args.until = search rules in let lacks = c.in-Err.ensures.turned in (lacks.0, lacks.1, sends_as _ _ early lacks.2)
