use Rattle.session_state.proofs.events.HearingLemmas.{same_rules}
use Rattle.rx_engine.proofs.Terms.{ap, arith, refl, rules, sym, counted_same, known_same, known_then, serves_may, serves_then, serves_well, cause_then, handled_same, same_then, stops_under, waits_under}
use Rattle.rx_engine.proofs.session.Session.await_item.Goals as goal

pub waits-init : goal.waits-init
waits-init g c = record {
  hears = λ image began waits. waits;
  same = record { options = refl; before = refl; hold = refl; cpu = refl; recorded = refl; choices = refl; taken = refl; steps = refl; until = refl; first = refl; sends = refl; keeping = refl };
  handled = c.requires.handled;
  may = c.requires.may;
  known = known_same refl;
  no_takes_fell = omega arith;
  no_gives_fell = omega arith;
  went = g.met.K.Link.went_same c.args.link.now;
}

pub hear-requires : goal.hear-requires
hear-requires g c =
    let k = c.requires.waits in
    record {
      stands = record {
        waits = record { image = k.image; began = k.began; is = waits_under (sym (same_rules g.R.AccessRule.rule c.waits.invariant.same)) (c.waits.invariant.hears k.image k.began k.is) };
        handled = c.waits.invariant.handled;
        marked = counted_same c.waits.invariant.same c.requires.marked;
        may = c.waits.invariant.may;
      };
      none_left = search rules;
    }

pub returns-in-Err-clause-hears : goal.returns-in-Err-clause-hears
returns-in-Err-clause-hears g c image began waits =
    let same = same_rules g.R.AccessRule.rule c.waits.invariant.same in
    stops_under image began (g.K.Link.seen c.hear.new.link) c.hear.new.self c.in-Err.stop same
    (c.in-Err.ensures.hears image began (waits_under (sym same) (c.waits.invariant.hears image began waits)))

pub returns-in-Err-clause-keeps : goal.returns-in-Err-clause-keeps
returns-in-Err-clause-keeps g c = record {
  link = serves_then c.waits.invariant.known c.waits.invariant.no_takes_fell c.waits.invariant.no_gives_fell c.in-Err.ensures.keeps.link;
  same = same_then c.waits.invariant.same c.in-Err.ensures.keeps.same;
  unnoted = c.in-Err.ensures.keeps.unnoted;
}

pub waits-smaller : goal.waits-smaller
waits-smaller g c =
    omega (arith, c.in_default.ensures.counts.later, c.in_default.ensures.counts.most, ap (λ options. options.max_events) c.waits.invariant.same.options)

pub waits-preserved : goal.waits-preserved
waits-preserved g c =
    let same = same_rules g.R.AccessRule.rule c.waits.invariant.same in
    let serves = c.in_default.ensures.keeps.link in
    let cause = cause_then {before = (g.K.Link.seen c.args.link.now).counts} c.waits.invariant.no_takes_fell c.waits.invariant.no_gives_fell serves.cause in
    record {
      hears = λ image began waits. waits_under same (c.in_default.ensures.hears image began (waits_under (sym same) (c.waits.invariant.hears image began waits)));
      same = same_then c.waits.invariant.same c.in_default.ensures.keeps.same;
      handled = handled_same c.in_default.ensures.keeps.same c.waits.invariant.handled;
      may = serves_may serves;
      known = known_then (g.K.Link.seen c.args.link.now).coming (g.K.Link.seen c.waits.link).coming (g.K.Link.seen c.hear.new.link).coming c.waits.invariant.known serves.known;
      no_takes_fell = cause.takes;
      no_gives_fell = cause.gives;
      went = g.met.K.Link.went_on c.args.link.now c.waits.link c.hear.new.link c.waits.invariant.went c.in_default.ensures.went;
    }

pub returns-clause-hears : goal.returns-clause-hears
returns-clause-hears g c image began waits = c.waits.invariant.hears image began waits

pub returns-clause-keeps : goal.returns-clause-keeps
returns-clause-keeps g c = record {
  link = serves_well c.waits.invariant.may c.waits.invariant.known c.waits.invariant.no_takes_fell c.waits.invariant.no_gives_fell;
  same = c.waits.invariant.same;
  unnoted = tt;
}

pub returns-in-Err-clause-went : goal.returns-in-Err-clause-went
returns-in-Err-clause-went g c = g.met.K.Link.went_on c.args.link.now c.waits.link c.hear.new.link c.waits.invariant.went c.in-Err.ensures.went

pub returns-clause-went : goal.returns-clause-went
returns-clause-went g c = c.waits.invariant.went
