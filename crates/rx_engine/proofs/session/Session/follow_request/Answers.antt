use Rattle.rx_engine.proofs.Terms.{List, ap, arith, refl, subst, sym, ℕ, ◌≡◌, Rules, AtRequest, rules_by, SessionState, chosen_fits, enough, handed_of, TurnsTo, WaitsOn}
use Rattle.rx_engine.proofs.StoppingAsked.{taking_still}
use Rattle.session_following.specs.declared.unfollowed.Unfollowed.TheVariants as unfollowed
use Rattle.rx_engine.proofs.RequestKeeping.{asks_marked, judged_keeps, release_keeps}
use Rattle.rx_engine.proofs.RequestLemmas.{asks_counted, asks_whole, few_asked, judged_request, reached_request, short_request, unlike_request}
use Rattle.rx_engine.proofs.session.Session.follow_request.Goals as goal

pub judge_here-requires : goal.judge_here-requires
judge_here-requires g c =
    let budget = ap (λ (s : SessionState _). s.options.budget) c.self.view_is in
    let items = ap (λ (s : SessionState _). s.options.max_items) c.self.view_is in
    chosen_fits (omega (arith, budget, c.self.invariant.few_budget)) (omega (arith, items, c.self.invariant.few_items)) c.requires.asks.4.stands

pub follow_item-requires-clause-waits : goal.follow_item-requires-clause-waits
follow_item-requires-clause-waits g c =
    let a = c.requires.asks.4 in
    let may = c.in-GoesOn.ensures.judged c.requires.asks.0.limits (enough a.stands.now.state.machine.taken) a.stands.now (AtRequest (asks_whole a)) (judged_request a) in (
      c.requires.asks.0,
      c.requires.asks.1,
      c.requires.asks.2,
      c.requires.asks.3,
      subst (λ (m : List ℕ). WaitsOn c.requires.asks.0 (rules_by g.R.AccessRule.rule c.args.self.now) c.requires.asks.1 (handed_of c.args.handed.now) c.requires.asks.2 (g.K.Link.seen c.args.link.now) c.requires.asks.3 (g.N.Notes.shown c.args.notes.now).told m c.args.self.now) (sym c.judge_here.ensures.same)
          (record { asking = a; not_yet = may.not_yet }),
    )

pub release-requires : goal.release-requires
release-requires g c =
    let a = c.requires.asks.4 in
    let items = ap (λ (s : SessionState _). s.options.max_items) c.self.view_is in
    let bound = ap (λ (r : Rules). r.bounds.max_items) a.stands.here_is in
    let few = few_asked a in
    record {
      rules = c.requires.asks.0;
      image = c.requires.asks.1;
      before = c.requires.asks.2;
      seen = g.K.Link.seen c.args.link.now;
      noted_before = c.requires.asks.3;
      noted = (g.N.Notes.shown c.args.notes.now).told;
      missing = c.args.missing.now;
      is = reached_request a (c.in-Reached.ensures.judged c.requires.asks.0.limits (enough a.stands.now.state.machine.taken) a.stands.now (AtRequest (asks_whole a)) (judged_request a));
      can = c.requires.can;
      few = omega (arith, few, items, bound, c.self.invariant.few_items);
    }

pub returns-in-GoesOn-clause-turns : goal.returns-in-GoesOn-clause-turns
returns-in-GoesOn-clause-turns g c taken image before noted_before a =
    let may = c.in-GoesOn.ensures.judged taken.limits (enough a.stands.now.state.machine.taken) a.stands.now (AtRequest (asks_whole a)) (judged_request a) in
    subst (λ (m : List ℕ). TurnsTo taken (rules_by g.R.AccessRule.rule c.follow_item.new.self) image (handed_of c.args.handed.now) before (g.K.Link.seen c.follow_item.new.link) noted_before (g.N.Notes.shown c.follow_item.new.notes).told m c.follow_item.new.self c.follow_item.result) c.judge_here.ensures.same
    (c.follow_item.ensures.turns taken image before noted_before
    (subst (λ (m : List ℕ). WaitsOn taken (rules_by g.R.AccessRule.rule c.args.self.now) image (handed_of c.args.handed.now) before (g.K.Link.seen c.args.link.now) noted_before (g.N.Notes.shown c.args.notes.now).told m c.args.self.now) (sym c.judge_here.ensures.same) (record { asking = a; not_yet = may.not_yet })))

pub returns-in-Reached-clause-turns : goal.returns-in-Reached-clause-turns
returns-in-Reached-clause-turns g c taken image before noted_before a =
    c.release.ensures.released taken image before (g.K.Link.seen c.args.link.now) noted_before (g.N.Notes.shown c.args.notes.now).told c.args.missing.now
    (reached_request a (c.in-Reached.ensures.judged taken.limits (enough a.stands.now.state.machine.taken) a.stands.now (AtRequest (asks_whole a)) (judged_request a)))

pub returns-in-Short-clause-turns : goal.returns-in-Short-clause-turns
returns-in-Short-clause-turns g c taken image before noted_before a =
    short_request a (c.in-Short.ensures.judged taken.limits (enough a.stands.now.state.machine.taken) a.stands.now (AtRequest (asks_whole a)) (judged_request a))

pub returns-in-Unlike-clause-turns : goal.returns-in-Unlike-clause-turns
returns-in-Unlike-clause-turns g c taken image before noted_before a =
    unlike_request a c.requires.can.placed (sym (ap (λ (s : SessionState _). s.steps) c.self.view_is)) (c.in-Unlike.ensures.judged taken.limits (enough a.stands.now.state.machine.taken) a.stands.now (AtRequest (asks_whole a)) (judged_request a))

pub returns-in-Reached-clause-keeps : goal.returns-in-Reached-clause-keeps
returns-in-Reached-clause-keeps g c = release_keeps c.requires.may (asks_marked c.requires.asks.4) c.release.ensures.same

pub returns-in-Short-clause-keeps : goal.returns-in-Short-clause-keeps
returns-in-Short-clause-keeps g c = judged_keeps (unfollowed.Short c.in-Short.conn) refl c.requires.may

pub returns-in-Unlike-clause-keeps : goal.returns-in-Unlike-clause-keeps
returns-in-Unlike-clause-keeps g c = judged_keeps (unfollowed.Mismatch c.self.inside.steps) refl c.requires.may

pub returns-in-Reached-clause-gives : goal.returns-in-Reached-clause-gives
returns-in-Reached-clause-gives g c = c.requires.may.gives.gives_still

pub returns-in-Short-clause-gives : goal.returns-in-Short-clause-gives
returns-in-Short-clause-gives g c = c.requires.may.gives.gives_still

pub returns-in-Unlike-clause-gives : goal.returns-in-Unlike-clause-gives
returns-in-Unlike-clause-gives g c = c.requires.may.gives.gives_still

pub returns-in-Reached-clause-noting : goal.returns-in-Reached-clause-noting
returns-in-Reached-clause-noting g c is = c.requires.may.takes

pub returns-in-Short-clause-noting : goal.returns-in-Short-clause-noting
returns-in-Short-clause-noting g c is = c.requires.may.takes

pub returns-in-Unlike-clause-noting : goal.returns-in-Unlike-clause-noting
returns-in-Unlike-clause-noting g c is = c.requires.may.takes

pub returns-in-GoesOn-clause-stops : goal.returns-in-GoesOn-clause-stops
returns-in-GoesOn-clause-stops g c taken image before noted_before why a is =
    let may = c.in-GoesOn.ensures.judged taken.limits (enough a.stands.now.state.machine.taken) a.stands.now (AtRequest (asks_whole a)) (judged_request a) in
    c.follow_item.ensures.stops taken image before noted_before why
    (subst (λ (m : List ℕ). WaitsOn taken (rules_by g.R.AccessRule.rule c.args.self.now) image (handed_of c.args.handed.now) before (g.K.Link.seen c.args.link.now) noted_before (g.N.Notes.shown c.args.notes.now).told m c.args.self.now) (sym c.judge_here.ensures.same) (record { asking = a; not_yet = may.not_yet })) is

pub returns-in-Reached-clause-stops : goal.returns-in-Reached-clause-stops
returns-in-Reached-clause-stops g c taken image before noted_before why a is = absurd (let never : ⊥ = cc in never)

pub returns-in-Short-clause-stops : goal.returns-in-Short-clause-stops
returns-in-Short-clause-stops g c taken image before noted_before why a is =
    let same : unfollowed.Short c.in-Short.conn ≡ why = cc in
    taking_still taken image (handed_of c.args.handed.now) before (g.K.Link.seen c.args.link.now) noted_before (g.N.Notes.shown c.args.notes.now).told c.args.self.now c.requires.may.takes same
    (short_request a (c.in-Short.ensures.judged taken.limits (enough a.stands.now.state.machine.taken) a.stands.now (AtRequest (asks_whole a)) (judged_request a)))

pub returns-in-Unlike-clause-stops : goal.returns-in-Unlike-clause-stops
returns-in-Unlike-clause-stops g c taken image before noted_before why a is =
    let same : unfollowed.Mismatch c.self.inside.steps ≡ why = cc in
    taking_still taken image (handed_of c.args.handed.now) before (g.K.Link.seen c.args.link.now) noted_before (g.N.Notes.shown c.args.notes.now).told c.args.self.now c.requires.may.takes same
    (unlike_request a c.requires.can.placed (sym (ap (λ (s : SessionState _). s.steps) c.self.view_is)) (c.in-Unlike.ensures.judged taken.limits (enough a.stands.now.state.machine.taken) a.stands.now (AtRequest (asks_whole a)) (judged_request a)))

pub returns-in-Reached-clause-least : goal.returns-in-Reached-clause-least
returns-in-Reached-clause-least g c = c.release.ensures.low (omega (arith, asks_counted c.requires.asks.4))

pub returns-in-Short-clause-least : goal.returns-in-Short-clause-least
returns-in-Short-clause-least g c = omega (arith, asks_counted c.requires.asks.4)

pub returns-in-Unlike-clause-least : goal.returns-in-Unlike-clause-least
returns-in-Unlike-clause-least g c = omega (arith, asks_counted c.requires.asks.4)
