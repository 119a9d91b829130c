use Rattle.session_history.specs.declared.ends.SessionBreak.TheVariants as session_break
use Rattle.session_history.specs.declared.ends.SessionEnd.TheVariants as session_end
use Rattle.session_history.specs.declared.ends.Stop.TheVariants as stop
use Rattle.session_following.specs.declared.unfollowed.Unfollowed.TheVariants as unfollowed
use Rattle.rx_engine.proofs.Terms.{Err, Ok, ap, arith, length, refl, subst, sym, ◌+◌, ◌∙◌, ◌≡◌, Bool, Stop, Rules, gives_same, IsHandled, AreInRange, IsUnnoted, LinkServes, rules_by, SessionState, Turned, Unfollowed, chosen_fits, waits_on, handed_of, stop_as, heard_as, marked, nothing_told, AwaitsBy}
use Rattle.rx_engine.proofs.StoppingAsked.{ended_asked, hearing_asked, same_why, taking_still}
use Rattle.rx_engine.proofs.RequestKeeping.{end_keeps, hearing_keeps, item_keeps, noting_keeps}
use Rattle.rx_engine.proofs.RequestLemmas.{asks_counted, handled_counted, handled_on, heard_counted, hearing_failed, noting_failed}
use Rattle.rx_engine.proofs.session.Session.follow_item.Goals as goal

pub handle-requires : goal.handle-requires
handle-requires g c =
    let w = c.requires.waits.4 in
    record {
      seen = record (g.K.Link.seen c.args.link.now) { told = nothing_told };
      waits = record { image = c.requires.waits.1; began = marked c.requires.waits.3 (g.N.Notes.shown c.args.notes.now).told; is = waits_on (g.K.Link.seen c.args.link.now) w.asking (let bound = ap (λ (r : Rules). r.bounds.max_items) w.asking.stands.here_is in let items = ap (λ (s : SessionState _). s.options.max_items) c.self.view_is in omega (arith, bound, items, c.self.invariant.few_items)) };
      takes = c.requires.may.takes;
    }

pub returns-in-Err-clause-turns : goal.returns-in-Err-clause-turns
returns-in-Err-clause-turns g c taken image before noted_before w = noting_failed {now = g.N.Notes.shown c.handle.new.notes} c.in-Err.stop w c.in-Err.ensures.keeps

pub await_followed-requires : goal.await_followed-requires
await_followed-requires g c =
    let w = c.requires.waits.4 in
    record {
      rules = c.requires.waits.0;
      image = c.requires.waits.1;
      handed = handed_of c.args.handed.now;
      before = c.requires.waits.2;
      noted_before = c.requires.waits.3;
      noted = (g.N.Notes.shown c.handle.new.notes).told;
      missing = c.args.missing.now;
      is = (handled_on g.R.AccessRule.rule {now = g.N.Notes.shown c.handle.new.notes} w c.in_default.ensures.keeps
          (c.in_default.ensures.waits c.requires.waits.1 (marked c.requires.waits.3 (g.N.Notes.shown c.args.notes.now).told) (record (g.K.Link.seen c.args.link.now) { told = nothing_told }) c.requires.may.takes
          (waits_on (g.K.Link.seen c.args.link.now) w.asking (let bound = ap (λ (r : Rules). r.bounds.max_items) w.asking.stands.here_is in let items = ap (λ (s : SessionState _). s.options.max_items) c.self.view_is in omega (arith, bound, items, c.self.invariant.few_items)))));
      may = record { takes = c.requires.may.takes; gives = gives_same c.in_default.ensures.keeps.opened c.requires.may.gives };
    }

pub take_followed-requires : goal.take_followed-requires
take_followed-requires g c =
    let w = c.requires.waits.4 in
    let still = (handled_on g.R.AccessRule.rule {now = g.N.Notes.shown c.handle.new.notes} w c.in_default.ensures.keeps
    (c.in_default.ensures.waits c.requires.waits.1 (marked c.requires.waits.3 (g.N.Notes.shown c.args.notes.now).told) (record (g.K.Link.seen c.args.link.now) { told = nothing_told }) c.requires.may.takes
    (waits_on (g.K.Link.seen c.args.link.now) w.asking (let bound = ap (λ (r : Rules). r.bounds.max_items) w.asking.stands.here_is in let items = ap (λ (s : SessionState _). s.options.max_items) c.self.view_is in omega (arith, bound, items, c.self.invariant.few_items))))) in
    let keeps = c.await_followed.ensures.keeps in
    record {
      rules = c.requires.waits.0;
      image = c.requires.waits.1;
      before = c.requires.waits.2;
      seen = g.K.Link.seen c.await_followed.new.link;
      noted_before = c.requires.waits.3;
      noted = (g.N.Notes.shown c.handle.new.notes).told;
      missing = c.args.missing.now;
      is =
          subst (λ (more : Bool). AwaitsBy c.requires.waits.0 (rules_by g.R.AccessRule.rule c.await_followed.new.self) c.requires.waits.1 (handed_of c.args.handed.now) c.requires.waits.2 (g.K.Link.seen c.await_followed.new.link) c.requires.waits.3 (g.N.Notes.shown c.handle.new.notes).told c.args.missing.now c.await_followed.new.self (Ok more)) c.in-Ok-true.field-0-test
          (c.in-Ok-true.ensures.hears c.requires.waits.0 c.requires.waits.1 (handed_of c.args.handed.now) c.requires.waits.2 c.requires.waits.3 (g.N.Notes.shown c.handle.new.notes).told c.args.missing.now still);
      handled = subst (λ (s : SessionState _). IsHandled s) (sym keeps.same) c.in_default.ensures.keeps.handled;
      there = c.in-Ok-true.ensures.there c.in-Ok-true.field-0-test;
      in_range =
          subst AreInRange (ap (λ (s : SessionState _). s.options) c.self.view_is ∙ (sym (ap (λ (s : SessionState _). s.options) c.in_default.ensures.keeps.same) ∙ sym (ap (λ (s : SessionState _). s.options) keeps.same))) c.self.invariant;
    }

pub unfollowed_end-requires-clause-fits : goal.unfollowed_end-requires-clause-fits
unfollowed_end-requires-clause-fits g c =
    let w = c.requires.waits.4 in
    let still = (handled_on g.R.AccessRule.rule {now = g.N.Notes.shown c.handle.new.notes} w c.in_default.ensures.keeps
    (c.in_default.ensures.waits c.requires.waits.1 (marked c.requires.waits.3 (g.N.Notes.shown c.args.notes.now).told) (record (g.K.Link.seen c.args.link.now) { told = nothing_told }) c.requires.may.takes
    (waits_on (g.K.Link.seen c.args.link.now) w.asking (let bound = ap (λ (r : Rules). r.bounds.max_items) w.asking.stands.here_is in let items = ap (λ (s : SessionState _). s.options.max_items) c.self.view_is in omega (arith, bound, items, c.self.invariant.few_items))))) in
    let budget = ap (λ (s : SessionState _). s.options.budget) c.in_default.ensures.keeps.same ∙ sym (ap (λ (s : SessionState _). s.options.budget) c.self.view_is) in
    let items = ap (λ (s : SessionState _). s.options.max_items) c.in_default.ensures.keeps.same ∙ sym (ap (λ (s : SessionState _). s.options.max_items) c.self.view_is) in
    let fits = chosen_fits (omega (arith, budget, c.self.invariant.few_budget)) (omega (arith, items, c.self.invariant.few_items)) still.asking.stands in
    let same = ap (λ (s : SessionState _). s.recorded + length s.choices) c.await_followed.ensures.keeps.same in
    omega (arith, fits, same)

pub returns-in-Ok-true-clause-turns : goal.returns-in-Ok-true-clause-turns
returns-in-Ok-true-clause-turns g c taken image before noted_before w =
    let still = (handled_on g.R.AccessRule.rule {now = g.N.Notes.shown c.handle.new.notes} w c.in_default.ensures.keeps
    (c.in_default.ensures.waits image (marked noted_before (g.N.Notes.shown c.args.notes.now).told) (record (g.K.Link.seen c.args.link.now) { told = nothing_told }) c.requires.may.takes
    (waits_on (g.K.Link.seen c.args.link.now) w.asking (let bound = ap (λ (r : Rules). r.bounds.max_items) w.asking.stands.here_is in let items = ap (λ (s : SessionState _). s.options.max_items) c.self.view_is in omega (arith, bound, items, c.self.invariant.few_items))))) in
    c.take_followed.ensures.follows taken image before (g.K.Link.seen c.await_followed.new.link) noted_before (g.N.Notes.shown c.handle.new.notes).told c.args.missing.now
    (subst (λ (more : Bool). AwaitsBy taken (rules_by g.R.AccessRule.rule c.await_followed.new.self) image (handed_of c.args.handed.now) before (g.K.Link.seen c.await_followed.new.link) noted_before (g.N.Notes.shown c.handle.new.notes).told c.args.missing.now c.await_followed.new.self (Ok more)) c.in-Ok-true.field-0-test
    (c.in-Ok-true.ensures.hears taken image (handed_of c.args.handed.now) before noted_before (g.N.Notes.shown c.handle.new.notes).told c.args.missing.now still))

pub returns-in-Ok-false-clause-turns : goal.returns-in-Ok-false-clause-turns
returns-in-Ok-false-clause-turns g c taken image before noted_before w =
    let still = (handled_on g.R.AccessRule.rule {now = g.N.Notes.shown c.handle.new.notes} w c.in_default.ensures.keeps
    (c.in_default.ensures.waits image (marked noted_before (g.N.Notes.shown c.args.notes.now).told) (record (g.K.Link.seen c.args.link.now) { told = nothing_told }) c.requires.may.takes
    (waits_on (g.K.Link.seen c.args.link.now) w.asking (let bound = ap (λ (r : Rules). r.bounds.max_items) w.asking.stands.here_is in let items = ap (λ (s : SessionState _). s.options.max_items) c.self.view_is in omega (arith, bound, items, c.self.invariant.few_items))))) in
    (c.unfollowed_end.ensures.unfollowed taken image before (g.K.Link.seen c.await_followed.new.link) noted_before (g.N.Notes.shown c.handle.new.notes).told c.await_followed.new.self.cpu.slots.live.steps
    (subst (λ (more : Bool). AwaitsBy taken (rules_by g.R.AccessRule.rule c.await_followed.new.self) image (handed_of c.args.handed.now) before (g.K.Link.seen c.await_followed.new.link) noted_before (g.N.Notes.shown c.handle.new.notes).told c.args.missing.now c.await_followed.new.self (Ok more)) c.in-Ok-false.field-0-test
    (c.in-Ok-false.ensures.hears taken image (handed_of c.args.handed.now) before noted_before (g.N.Notes.shown c.handle.new.notes).told c.args.missing.now still))
    (heard_counted c.await_followed.ensures.keeps (asks_counted still.asking))).0

pub returns-in-Err-await_followed-clause-turns : goal.returns-in-Err-await_followed-clause-turns
returns-in-Err-await_followed-clause-turns g c taken image before noted_before w =
    let still = (handled_on g.R.AccessRule.rule {now = g.N.Notes.shown c.handle.new.notes} w c.in_default.ensures.keeps
    (c.in_default.ensures.waits image (marked noted_before (g.N.Notes.shown c.args.notes.now).told) (record (g.K.Link.seen c.args.link.now) { told = nothing_told }) c.requires.may.takes
    (waits_on (g.K.Link.seen c.args.link.now) w.asking (let bound = ap (λ (r : Rules). r.bounds.max_items) w.asking.stands.here_is in let items = ap (λ (s : SessionState _). s.options.max_items) c.self.view_is in omega (arith, bound, items, c.self.invariant.few_items))))) in
    hearing_failed c.in-Err-await_followed.stop (c.in-Err-await_followed.ensures.hears taken image (handed_of c.args.handed.now) before noted_before (g.N.Notes.shown c.handle.new.notes).told c.args.missing.now still) (heard_counted c.await_followed.ensures.keeps (asks_counted still.asking))

pub returns-in-Err-clause-keeps : goal.returns-in-Err-clause-keeps
returns-in-Err-clause-keeps g c = noting_keeps c.in-Err.stop c.requires.may c.in-Err.ensures.keeps

pub returns-in-Ok-true-clause-keeps : goal.returns-in-Ok-true-clause-keeps
returns-in-Ok-true-clause-keeps g c =
    let keeps = c.take_followed.ensures.keeps in
    item_keeps c.in_default.ensures.keeps c.await_followed.ensures.keeps
    (subst (λ (more : Bool). LinkServes {X = Unit {0}} (g.K.Link.seen c.args.link.now) (g.K.Link.seen c.await_followed.new.link) c.await_followed.new.self.replies (heard_as (Ok more))) c.in-Ok-true.field-0-test c.in-Ok-true.ensures.link) keeps.0 keeps.1 keeps.2 keeps.3 keeps.4
    c.take_followed.ensures.one

pub returns-in-Ok-false-clause-keeps : goal.returns-in-Ok-false-clause-keeps
returns-in-Ok-false-clause-keeps g c =
    end_keeps c.unfollowed_end.result c.unfollowed_end.ensures.at_end c.in_default.ensures.keeps c.await_followed.ensures.keeps
    (subst (λ (more : Bool). LinkServes {X = Unit {0}} (g.K.Link.seen c.args.link.now) (g.K.Link.seen c.await_followed.new.link) c.await_followed.new.self.replies (heard_as (Ok more))) c.in-Ok-false.field-0-test c.in-Ok-false.ensures.link)

pub returns-in-Err-await_followed-clause-keeps : goal.returns-in-Err-await_followed-clause-keeps
returns-in-Err-await_followed-clause-keeps g c = hearing_keeps c.in-Err-await_followed.stop c.in_default.ensures.keeps c.await_followed.ensures.keeps c.in-Err-await_followed.ensures.link c.in-Err-await_followed.ensures.unnoted

pub returns-in-Err-clause-gives : goal.returns-in-Err-clause-gives
returns-in-Err-clause-gives g c = c.requires.may.gives.gives_still

pub returns-in-Err-clause-noting : goal.returns-in-Err-clause-noting
returns-in-Err-clause-noting g c is = c.requires.may.takes

pub returns-in-Ok-true-clause-noting : goal.returns-in-Ok-true-clause-noting
returns-in-Ok-true-clause-noting g c is = absurd (let never : ⊥ = cc in never)

pub returns-in-Ok-false-clause-noting : goal.returns-in-Ok-false-clause-noting
returns-in-Ok-false-clause-noting g c is =
    let same : c.unfollowed_end.result ≡ unfollowed.Stops (stop.Breaks session_break.FileFault) = cc in
    let end : stop.Breaks session_break.FileFault ≡ stop.Ends session_end.Finished = subst (λ (why : Unfollowed). stop_as why ≡ stop.Ends session_end.Finished) same c.unfollowed_end.ensures.at_end in
    absurd (let never : ⊥ = cc in never)

pub returns-in-Err-await_followed-clause-noting : goal.returns-in-Err-await_followed-clause-noting
returns-in-Err-await_followed-clause-noting g c is =
    let same : c.in-Err-await_followed.stop ≡ stop.Breaks session_break.FileFault = cc in
    absurd (subst (λ (why : Stop). IsUnnoted (Err why)) same c.in-Err-await_followed.ensures.unnoted)

pub returns-in-Err-clause-stops : goal.returns-in-Err-clause-stops
returns-in-Err-clause-stops g c taken image before noted_before why w is =
    let same : unfollowed.Stops c.in-Err.stop ≡ why = cc in
    taking_still taken image (handed_of c.args.handed.now) before (g.K.Link.seen c.args.link.now) noted_before (g.N.Notes.shown c.handle.new.notes).told c.handle.new.self c.requires.may.takes same
    (noting_failed {now = g.N.Notes.shown c.handle.new.notes} c.in-Err.stop w c.in-Err.ensures.keeps)

pub returns-in-Ok-true-clause-stops : goal.returns-in-Ok-true-clause-stops
returns-in-Ok-true-clause-stops g c taken image before noted_before why w is = absurd (let never : ⊥ = cc in never)

pub returns-in-Ok-false-clause-stops : goal.returns-in-Ok-false-clause-stops
returns-in-Ok-false-clause-stops g c taken image before noted_before why w is =
    let same : c.unfollowed_end.result ≡ why = same_why {T = Turned} {E = Unfollowed} is in
    let still = (handled_on g.R.AccessRule.rule {now = g.N.Notes.shown c.handle.new.notes} w c.in_default.ensures.keeps
    (c.in_default.ensures.waits image (marked noted_before (g.N.Notes.shown c.args.notes.now).told) (record (g.K.Link.seen c.args.link.now) { told = nothing_told }) c.requires.may.takes
    (waits_on (g.K.Link.seen c.args.link.now) w.asking (let bound = ap (λ (r : Rules). r.bounds.max_items) w.asking.stands.here_is in let items = ap (λ (s : SessionState _). s.options.max_items) c.self.view_is in omega (arith, bound, items, c.self.invariant.few_items))))) in
    ended_asked taken image (handed_of c.args.handed.now) before (g.K.Link.seen c.await_followed.new.link) noted_before (g.N.Notes.shown c.handle.new.notes).told c.await_followed.new.self same
    (c.unfollowed_end.ensures.unfollowed taken image before (g.K.Link.seen c.await_followed.new.link) noted_before (g.N.Notes.shown c.handle.new.notes).told c.await_followed.new.self.cpu.slots.live.steps
    (subst (λ (more : Bool). AwaitsBy taken (rules_by g.R.AccessRule.rule c.await_followed.new.self) image (handed_of c.args.handed.now) before (g.K.Link.seen c.await_followed.new.link) noted_before (g.N.Notes.shown c.handle.new.notes).told c.args.missing.now c.await_followed.new.self (Ok more)) c.in-Ok-false.field-0-test
    (c.in-Ok-false.ensures.hears taken image (handed_of c.args.handed.now) before noted_before (g.N.Notes.shown c.handle.new.notes).told c.args.missing.now still))
    (heard_counted c.await_followed.ensures.keeps (asks_counted still.asking)))

pub returns-in-Err-await_followed-clause-stops : goal.returns-in-Err-await_followed-clause-stops
returns-in-Err-await_followed-clause-stops g c taken image before noted_before why w is =
    let same : unfollowed.Stops c.in-Err-await_followed.stop ≡ why = same_why {T = Turned} {E = Unfollowed} is in
    let still = (handled_on g.R.AccessRule.rule {now = g.N.Notes.shown c.handle.new.notes} w c.in_default.ensures.keeps
    (c.in_default.ensures.waits image (marked noted_before (g.N.Notes.shown c.args.notes.now).told) (record (g.K.Link.seen c.args.link.now) { told = nothing_told }) c.requires.may.takes
    (waits_on (g.K.Link.seen c.args.link.now) w.asking (let bound = ap (λ (r : Rules). r.bounds.max_items) w.asking.stands.here_is in let items = ap (λ (s : SessionState _). s.options.max_items) c.self.view_is in omega (arith, bound, items, c.self.invariant.few_items))))) in
    hearing_asked taken image (handed_of c.args.handed.now) before (g.K.Link.seen c.await_followed.new.link) noted_before (g.N.Notes.shown c.handle.new.notes).told c.await_followed.new.self same
    (c.in-Err-await_followed.ensures.asked taken image (handed_of c.args.handed.now) before noted_before (g.N.Notes.shown c.handle.new.notes).told c.args.missing.now c.in-Err-await_followed.stop still refl)
    (heard_counted c.await_followed.ensures.keeps (asks_counted still.asking))

pub returns-in-Err-clause-least : goal.returns-in-Err-clause-least
returns-in-Err-clause-least g c = omega (arith, handled_counted c.in-Err.ensures.keeps (asks_counted c.requires.waits.4.asking))

pub returns-in-Ok-true-clause-least : goal.returns-in-Ok-true-clause-least
returns-in-Ok-true-clause-least g c = omega (arith, c.take_followed.ensures.keeps.4.steps)

pub returns-in-Ok-false-clause-least : goal.returns-in-Ok-false-clause-least
returns-in-Ok-false-clause-least g c = omega (arith, heard_counted c.await_followed.ensures.keeps (handled_counted c.in_default.ensures.keeps (asks_counted c.requires.waits.4.asking)))

pub returns-in-Err-await_followed-clause-least : goal.returns-in-Err-await_followed-clause-least
returns-in-Err-await_followed-clause-least g c = omega (arith, heard_counted c.await_followed.ensures.keeps (handled_counted c.in_default.ensures.keeps (asks_counted c.requires.waits.4.asking)))
