use Rattle.rx_engine.proofs.Terms.{ap, arith, sym, false≢true, items_in, Rules, heard_alone, AtFailure, SessionState, chosen_fits}
use Rattle.rx_engine.proofs.EndingOn.{fails_whole, few_taken, judged_failure, reached_failure, short_failure, unlike_failure}
use Rattle.rx_engine.proofs.session.Session.follow_failure.Goals as goal

pub judge_here-requires : goal.judge_here-requires
judge_here-requires g c =
    let budget = ap (λ (s : SessionState _). s.options.budget) c.self.view_is in
    let items = ap (λ (s : SessionState _). s.options.max_items) c.self.view_is in
    chosen_fits (omega (arith, budget, c.self.invariant.few_budget)) (omega (arith, items, c.self.invariant.few_items)) c.requires.is.stands

pub release-requires : goal.release-requires
release-requires g c =
    let w = c.requires.is in
    let items = ap (λ (s : SessionState _). s.options.max_items) c.self.view_is in
    let bound = ap (λ (r : Rules). r.bounds.max_items) w.stands.here_is in
    let few = few_taken w in
    record {
      rules = c.requires.rules;
      image = c.requires.image;
      before = c.requires.before;
      seen = c.requires.seen;
      noted_before = c.requires.noted_before;
      noted = c.requires.noted;
      missing = c.args.missing.now;
      is = reached_failure w (c.in-Reached.ensures.judged c.requires.rules.limits (items_in c.requires.rules.bounds (heard_alone w.stands.events)) w.stands.now (AtFailure w.cause (fails_whole w)) (judged_failure w));
      can = c.requires.can;
      few = omega (arith, few, items, bound, c.self.invariant.few_items);
    }

pub returns-in-Reached-clause-turns : goal.returns-in-Reached-clause-turns
returns-in-Reached-clause-turns g c taken image before seen noted_before noted w =
    c.release.ensures.released taken image before seen noted_before noted c.args.missing.now
    (reached_failure w (c.in-Reached.ensures.judged taken.limits (items_in taken.bounds (heard_alone w.stands.events)) w.stands.now (AtFailure w.cause (fails_whole w)) (judged_failure w)))

pub returns-in-Short-clause-turns : goal.returns-in-Short-clause-turns
returns-in-Short-clause-turns g c taken image before seen noted_before noted w =
    short_failure w (c.in-Short.ensures.judged taken.limits (items_in taken.bounds (heard_alone w.stands.events)) w.stands.now (AtFailure w.cause (fails_whole w)) (judged_failure w))

pub returns-in-Unlike-clause-turns : goal.returns-in-Unlike-clause-turns
returns-in-Unlike-clause-turns g c taken image before seen noted_before noted w =
    unlike_failure w c.requires.can.placed (sym (ap (λ (s : SessionState _). s.steps) c.self.view_is))
    (c.in-Unlike.ensures.judged taken.limits (items_in taken.bounds (heard_alone w.stands.events)) w.stands.now (AtFailure w.cause (fails_whole w)) (judged_failure w))

pub returns-in-GoesOn-clause-turns : goal.returns-in-GoesOn-clause-turns
returns-in-GoesOn-clause-turns g c taken image before seen noted_before noted w =
    let may = c.in-GoesOn.ensures.judged taken.limits (items_in taken.bounds (heard_alone w.stands.events)) w.stands.now (AtFailure w.cause (fails_whole w)) (judged_failure w) in
    absurd (false≢true (sym may.goes_on))
