use Rattle.rx_engine.proofs.Terms.{Ok, arith, refl, rules, subst, ◌≡◌, Bool, known_same, known_then, serves_may, cause_then, CountsEvent, LinkServes, rules_by, heard_as, AwaitsBy}
use Rattle.rx_engine.proofs.AwaitLemmas.{heard_then}
use Rattle.rx_engine.proofs.session.Session.await_followed.Goals as goal

pub waits-init : goal.waits-init
waits-init g c = record {
  hears = λ taken image handed before noted_before noted missing waits. waits;
  keeps = record { same = refl; first = refl; sends = refl };
  may = c.requires.may;
  known = known_same refl;
  no_takes_fell = omega arith;
  no_gives_fell = omega arith;
  went = g.met.K.Link.went_same c.args.link.now;
}

pub hear_followed-requires : goal.hear_followed-requires
hear_followed-requires g c =
    let k = c.requires in
    record {
      waits = record {
        rules = k.rules;
        image = k.image;
        handed = k.handed;
        before = k.before;
        noted_before = k.noted_before;
        noted = k.noted;
        missing = k.missing;
        is = c.waits.invariant.hears k.rules k.image k.handed k.before k.noted_before k.noted k.missing k.is;
        may = c.waits.invariant.may;
      };
      none_left = search rules;
    }

pub waits-smaller : goal.waits-smaller
waits-smaller g c =
    let counts = subst (λ (more : Bool). CountsEvent c.waits.self c.hear_followed.new.self (heard_as (Ok more))) c.in-Ok-true.field-0-test c.in-Ok-true.ensures.counts in
    let limit : c.waits.self.options.max_events ≡ c.args.self.now.options.max_events = λ i. (c.waits.invariant.keeps.same i).options.max_events in
    omega (arith, counts.later, counts.most, limit)

pub waits-preserved : goal.waits-preserved
waits-preserved g c =
    let went = c.in-Ok-true.ensures in
    let serves = subst (λ (more : Bool). LinkServes (g.K.Link.seen c.waits.link) (g.K.Link.seen c.hear_followed.new.link) c.hear_followed.new.self.replies (heard_as (Ok more))) c.in-Ok-true.field-0-test went.link in
    let cause = cause_then {before = (g.K.Link.seen c.args.link.now).counts} c.waits.invariant.no_takes_fell c.waits.invariant.no_gives_fell serves.cause in
    record {
      hears = λ taken image handed before noted_before noted missing waits.
          subst (λ (more : Bool). AwaitsBy taken (rules_by g.R.AccessRule.rule c.hear_followed.new.self) image handed before (g.K.Link.seen c.hear_followed.new.link) noted_before noted missing c.hear_followed.new.self (Ok more)) c.in-Ok-true.field-0-test
          (went.hears taken image handed before noted_before noted missing (c.waits.invariant.hears taken image handed before noted_before noted missing waits));
      keeps = heard_then c.waits.invariant.keeps went.keeps;
      may = serves_may serves;
      known = known_then (g.K.Link.seen c.args.link.now).coming (g.K.Link.seen c.waits.link).coming (g.K.Link.seen c.hear_followed.new.link).coming c.waits.invariant.known serves.known;
      no_takes_fell = cause.takes;
      no_gives_fell = cause.gives;
      went = g.met.K.Link.went_on c.args.link.now c.waits.link c.hear_followed.new.link c.waits.invariant.went went.went;
    }

pub returns-in-Ok-false-clause-hears : goal.returns-in-Ok-false-clause-hears
returns-in-Ok-false-clause-hears g c taken image handed before noted_before noted missing waits =
    subst (λ (more : Bool). AwaitsBy taken (rules_by g.R.AccessRule.rule c.hear_followed.new.self) image handed before (g.K.Link.seen c.hear_followed.new.link) noted_before noted missing c.hear_followed.new.self (Ok more)) c.in-Ok-false.field-0-test
    (c.in-Ok-false.ensures.hears taken image handed before noted_before noted missing (c.waits.invariant.hears taken image handed before noted_before noted missing waits))

pub returns-in-Err-clause-hears : goal.returns-in-Err-clause-hears
returns-in-Err-clause-hears g c taken image handed before noted_before noted missing waits = c.in-Err.ensures.hears taken image handed before noted_before noted missing (c.waits.invariant.hears taken image handed before noted_before noted missing waits)

pub returns-clause-gives : goal.returns-clause-gives
returns-clause-gives g c = c.waits.invariant.may.gives.gives_still

pub returns-clause-asked : goal.returns-clause-asked
returns-clause-asked g c taken image handed before noted_before noted missing why waits is = absurd (let never : ⊥ = cc in never)

pub returns-in-Ok-false-clause-asked : goal.returns-in-Ok-false-clause-asked
returns-in-Ok-false-clause-asked g c taken image handed before noted_before noted missing why waits is = absurd (let never : ⊥ = cc in never)

pub returns-in-Err-clause-asked : goal.returns-in-Err-clause-asked
returns-in-Err-clause-asked g c taken image handed before noted_before noted missing why waits is = c.in-Err.ensures.asked taken image handed before noted_before noted missing why (c.waits.invariant.hears taken image handed before noted_before noted missing waits) is
