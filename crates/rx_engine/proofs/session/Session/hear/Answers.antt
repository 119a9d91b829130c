use Rattle.links.specs.declared.journal.Entry.TheVariants as entry
use Rattle.links.specs.declared.journal.LinkEvent.TheVariants as event
use Rattle.rx_engine.proofs.Terms.{Err, Ok, [], ap, arith, refl, rules, subst, sym, ◌∙◌, ◌∷◌, ◌≤◌, Seen, received, Rules, ComesLast, unnoted_passing, unnoted_stopped, ended_serves, heard_serves, stopped_serves, all_taken, close_heard, end_heard, ends_by, heard_can, heard_closing, heard_last, heard_opened, heard_saved, heard_settled, if_ok, items_heard, items_hearing, moved, one_counted, quiet_event, settle_heard, stops_by, story_heard, waits_closed, waits_due, waits_settled, received_is, held_of, still_takes, IsHandled, rules_by, SessionState, Story, entries, sends, then_story}
use Rattle.rx_engine.proofs.session.Session.hear.Goals as goal

pub pass_due-requires : goal.pass_due-requires
pass_due-requires g c =
    let the_rules : Rules = rules_by g.R.AccessRule.rule c.args.self.now in
    let w = moved (sym c.self.view_is) c.requires.stands.waits.is in
    let none_left = subst (λ (s : SessionState _). received s.log ≤ s.taken) (sym c.self.view_is) c.requires.none_left in
    let limit = ap (λ (s : SessionState _). s.options.max_events) (sym c.self.view_is) in
    let h = c.in-Ok-Items.ensures.hears the_rules.bounds (entries w.hearing.story) (sends w.hearing.story) limit w.hearing.goes.events w.hearing.goes.items w.hearing.passed.replies w.hearing.goes.phases_are in
    let e = items_heard {was = g.K.Link.seen c.args.link.now} {seen = g.K.Link.seen c.hear.new.link} _ h c.in-Ok-Items.field-0-is in
    record {
      can = heard_can w none_left c.in-Ok-Items.ensures.keeps.first c.in-Ok-Items.ensures.keeps.replies.trial e.2;
      gives = record { gives_still = c.in-Ok-Items.ensures.shows.gives ∙ c.requires.stands.may.gives.gives_still; connected = c.in-Ok-Items.ensures.shows.connected };
    }

pub returns-in-Ok-Items-clause-hears : goal.returns-in-Ok-Items-clause-hears
returns-in-Ok-Items-clause-hears g c image began waits =
    let the_rules : Rules = rules_by g.R.AccessRule.rule c.args.self.now in
    let w = moved (sym c.self.view_is) waits in
    let none_left = subst (λ (s : SessionState _). received s.log ≤ s.taken) (sym c.self.view_is) c.requires.none_left in
    let limit = ap (λ (s : SessionState _). s.options.max_events) (sym c.self.view_is) in
    let h = c.in-Ok-Items.ensures.hears the_rules.bounds (entries w.hearing.story) (sends w.hearing.story) limit w.hearing.goes.events w.hearing.goes.items w.hearing.passed.replies w.hearing.goes.phases_are in
    let e = items_heard {was = g.K.Link.seen c.args.link.now} {seen = g.K.Link.seen c.hear.new.link} _ h c.in-Ok-Items.field-0-is in
    let hearing = items_hearing w none_left c.in-Ok-Items.ensures.keeps.first c.in-Ok-Items.ensures.keeps.replies.first c.in-Ok-Items.ensures.keeps.replies.trial e.1 e.2 in
    let passes = c.pass_due.ensures.passes the_rules image began hearing.story (ap (λ (s : SessionState _). s.hold) (sym c.self.view_is)) (record { told = hearing.told; answers = hearing.answers; holds = (held_of hearing.saved); received_are = (received_is hearing.goes.items) }) hearing.passed in
    waits_due (g.K.Link.seen c.pass_due.new.link) hearing c.pass_due.result c.pass_due.ensures.keeps.only.same c.pass_due.ensures.keeps.only.first (λ conn. ap (λ (s : Seen). s.phases conn) c.pass_due.ensures.keeps.link.rest)
    (ap (λ (s : Seen). s.takes) c.pass_due.ensures.keeps.link.rest ∙ c.in-Ok-Items.ensures.shows.takes) passes

pub returns-in-Ok-Items-clause-counts : goal.returns-in-Ok-Items-clause-counts
returns-in-Ok-Items-clause-counts g c =
    let the_rules : Rules = rules_by g.R.AccessRule.rule c.args.self.now in
    let w = moved (sym c.self.view_is) c.requires.stands.waits.is in
    let limit = ap (λ (s : SessionState _). s.options.max_events) (sym c.self.view_is) in
    let h = c.in-Ok-Items.ensures.hears the_rules.bounds (entries w.hearing.story) (sends w.hearing.story) limit w.hearing.goes.events w.hearing.goes.items w.hearing.passed.replies w.hearing.goes.phases_are in
    let e = items_heard {was = g.K.Link.seen c.args.link.now} {seen = g.K.Link.seen c.hear.new.link} _ h c.in-Ok-Items.field-0-is in
    record { most = search rules; later = if_ok _ c.pass_due.result (one_counted the_rules.bounds (entries w.hearing.story) e.0 _ _ (quiet_event e.0 e.1) (ap (λ (s : SessionState _). s.events) (sym c.self.view_is) ∙ w.hearing.goes.events) (ap (λ (s : SessionState _). s.events) c.pass_due.ensures.keeps.only.same ∙ e.2.counted)) }

pub close-requires : goal.close-requires
close-requires g c =
    let the_rules : Rules = rules_by g.R.AccessRule.rule c.args.self.now in
    let k = c.requires.stands.waits in
    let w = moved (sym c.self.view_is) k.is in
    let none_left = subst (λ (s : SessionState _). received s.log ≤ s.taken) (sym c.self.view_is) c.requires.none_left in
    let limit = ap (λ (s : SessionState _). s.options.max_events) (sym c.self.view_is) in
    let h = c.in-Ok-Closes.ensures.hears the_rules.bounds (entries w.hearing.story) (sends w.hearing.story) limit w.hearing.goes.events w.hearing.goes.items w.hearing.passed.replies w.hearing.goes.phases_are in
    let e = close_heard {was = g.K.Link.seen c.args.link.now} {seen = g.K.Link.seen c.hear.new.link} _ h c.in-Ok-Closes.field-0-is in
    let known = story_heard w none_left c.in-Ok-Closes.ensures.keeps.first e in
    record {
      rules = the_rules;
      image = k.image;
      began = k.began;
      story = then_story w.hearing.story (entry.Took (event.Closes c.in-Ok-Closes.conn) ∷ []);
      told = known.told;
      received_are = received_is known.goes.items;
      closing = heard_closing w none_left c.in-Ok-Closes.ensures.keeps.first e;
      no_trial = c.in-Ok-Closes.ensures.keeps.replies.trial ∙ w.hearing.passed.no_trial;
      opened = heard_opened w e;
      gives = record { gives_still = c.in-Ok-Closes.ensures.shows.gives ∙ c.requires.stands.may.gives.gives_still; connected = c.in-Ok-Closes.ensures.shows.connected };
    }

pub returns-in-Ok-Closes-clause-hears : goal.returns-in-Ok-Closes-clause-hears
returns-in-Ok-Closes-clause-hears g c image began waits =
    let the_rules : Rules = rules_by g.R.AccessRule.rule c.args.self.now in
    let w = moved (sym c.self.view_is) waits in
    let none_left = subst (λ (s : SessionState _). received s.log ≤ s.taken) (sym c.self.view_is) c.requires.none_left in
    let limit = ap (λ (s : SessionState _). s.options.max_events) (sym c.self.view_is) in
    let h = c.in-Ok-Closes.ensures.hears the_rules.bounds (entries w.hearing.story) (sends w.hearing.story) limit w.hearing.goes.events w.hearing.goes.items w.hearing.passed.replies w.hearing.goes.phases_are in
    let e = close_heard {was = g.K.Link.seen c.args.link.now} {seen = g.K.Link.seen c.hear.new.link} _ h c.in-Ok-Closes.field-0-is in
    let after : Story = then_story w.hearing.story (entry.Took (event.Closes c.in-Ok-Closes.conn) ∷ []) in
    let known = story_heard w none_left c.in-Ok-Closes.ensures.keeps.first e in
    let closing = heard_closing w none_left c.in-Ok-Closes.ensures.keeps.first e in
    let passes = c.close.ensures.passes the_rules image began after (ap (λ (s : SessionState _). s.hold) (sym c.self.view_is)) (record { told = known.told; answers = known.answers; holds = (held_of (heard_saved w c.in-Ok-Closes.ensures.keeps.first c.in-Ok-Closes.ensures.keeps.replies.first e)); received_are = (received_is known.goes.items) }) closing in
    waits_closed (g.K.Link.seen c.close.new.link) known c.close.result
    (heard_saved w c.in-Ok-Closes.ensures.keeps.first c.in-Ok-Closes.ensures.keeps.replies.first e)
    (heard_last (event.Closes c.in-Ok-Closes.conn) w none_left tt) c.close.ensures.keeps.only.same c.close.ensures.keeps.only.first (λ conn. ap (λ (s : Seen). s.phases conn) c.close.ensures.keeps.link.rest) (ap (λ (s : Seen). s.takes) c.close.ensures.keeps.link.rest ∙ c.in-Ok-Closes.ensures.shows.takes) passes

pub returns-in-Ok-Closes-clause-counts : goal.returns-in-Ok-Closes-clause-counts
returns-in-Ok-Closes-clause-counts g c =
    let the_rules : Rules = rules_by g.R.AccessRule.rule c.args.self.now in
    let w = moved (sym c.self.view_is) c.requires.stands.waits.is in
    let limit = ap (λ (s : SessionState _). s.options.max_events) (sym c.self.view_is) in
    let h = c.in-Ok-Closes.ensures.hears the_rules.bounds (entries w.hearing.story) (sends w.hearing.story) limit w.hearing.goes.events w.hearing.goes.items w.hearing.passed.replies w.hearing.goes.phases_are in
    let e = close_heard {was = g.K.Link.seen c.args.link.now} {seen = g.K.Link.seen c.hear.new.link} _ h c.in-Ok-Closes.field-0-is in
    record { most = search rules; later = if_ok _ c.close.result (one_counted the_rules.bounds (entries w.hearing.story) (event.Closes c.in-Ok-Closes.conn) _ _ refl (ap (λ (s : SessionState _). s.events) (sym c.self.view_is) ∙ w.hearing.goes.events) (ap (λ (s : SessionState _). s.events) c.close.ensures.keeps.only.same ∙ e.counted)) }

pub pass-requires : goal.pass-requires
pass-requires g c =
    let the_rules : Rules = rules_by g.R.AccessRule.rule c.args.self.now in
    let w = moved (sym c.self.view_is) c.requires.stands.waits.is in
    let none_left = subst (λ (s : SessionState _). received s.log ≤ s.taken) (sym c.self.view_is) c.requires.none_left in
    let limit = ap (λ (s : SessionState _). s.options.max_events) (sym c.self.view_is) in
    let h = c.in-Ok-Settles.ensures.hears the_rules.bounds (entries w.hearing.story) (sends w.hearing.story) limit w.hearing.goes.events w.hearing.goes.items w.hearing.passed.replies w.hearing.goes.phases_are in
    let e = settle_heard {was = g.K.Link.seen c.args.link.now} {seen = g.K.Link.seen c.hear.new.link} _ h c.in-Ok-Settles.field-0-is in
    record {
      can = heard_can w none_left c.in-Ok-Settles.ensures.keeps.first c.in-Ok-Settles.ensures.keeps.replies.trial e;
      gives = record { gives_still = c.in-Ok-Settles.ensures.shows.gives ∙ c.requires.stands.may.gives.gives_still; connected = c.in-Ok-Settles.ensures.shows.connected };
    }

pub returns-in-Ok-Settles-clause-hears : goal.returns-in-Ok-Settles-clause-hears
returns-in-Ok-Settles-clause-hears g c image began waits =
    let the_rules : Rules = rules_by g.R.AccessRule.rule c.args.self.now in
    let w = moved (sym c.self.view_is) waits in
    let none_left = subst (λ (s : SessionState _). received s.log ≤ s.taken) (sym c.self.view_is) c.requires.none_left in
    let limit = ap (λ (s : SessionState _). s.options.max_events) (sym c.self.view_is) in
    let h = c.in-Ok-Settles.ensures.hears the_rules.bounds (entries w.hearing.story) (sends w.hearing.story) limit w.hearing.goes.events w.hearing.goes.items w.hearing.passed.replies w.hearing.goes.phases_are in
    let e = settle_heard {was = g.K.Link.seen c.args.link.now} {seen = g.K.Link.seen c.hear.new.link} _ h c.in-Ok-Settles.field-0-is in
    let after : Story = then_story w.hearing.story (entry.Took event.Settles ∷ []) in
    let known = story_heard w none_left c.in-Ok-Settles.ensures.keeps.first e in
    let ready = heard_settled w none_left c.in-Ok-Settles.ensures.keeps.first e in
    let passes = c.pass.ensures.passes the_rules image began after (record { told = known.told; answers = known.answers; holds = (held_of (heard_saved w c.in-Ok-Settles.ensures.keeps.first c.in-Ok-Settles.ensures.keeps.replies.first e)); received_are = (received_is known.goes.items) }) ready in
    waits_settled (g.K.Link.seen c.pass.new.link) w.hearing.story known c.pass.result (omega (arith, w.hearing.goes.few, c.self.invariant.few_items, ap (λ (s : SessionState _). s.options.max_items) (sym c.self.view_is)))
    (all_taken w none_left)
    (heard_saved w c.in-Ok-Settles.ensures.keeps.first c.in-Ok-Settles.ensures.keeps.replies.first e) c.pass.ensures.keeps.only.same c.pass.ensures.keeps.only.first c.pass.ensures.keeps.only.no_trial (λ conn. ap (λ (s : Seen). s.phases conn) c.pass.ensures.keeps.link.rest) (ap (λ (s : Seen). s.takes) c.pass.ensures.keeps.link.rest ∙ c.in-Ok-Settles.ensures.shows.takes) passes

pub returns-in-Ok-Settles-clause-counts : goal.returns-in-Ok-Settles-clause-counts
returns-in-Ok-Settles-clause-counts g c =
    let the_rules : Rules = rules_by g.R.AccessRule.rule c.args.self.now in
    let w = moved (sym c.self.view_is) c.requires.stands.waits.is in
    let limit = ap (λ (s : SessionState _). s.options.max_events) (sym c.self.view_is) in
    let h = c.in-Ok-Settles.ensures.hears the_rules.bounds (entries w.hearing.story) (sends w.hearing.story) limit w.hearing.goes.events w.hearing.goes.items w.hearing.passed.replies w.hearing.goes.phases_are in
    let e = settle_heard {was = g.K.Link.seen c.args.link.now} {seen = g.K.Link.seen c.hear.new.link} _ h c.in-Ok-Settles.field-0-is in
    record { most = search rules; later = if_ok _ c.pass.result (one_counted the_rules.bounds (entries w.hearing.story) event.Settles _ _ refl (ap (λ (s : SessionState _). s.events) (sym c.self.view_is) ∙ w.hearing.goes.events) (ap (λ (s : SessionState _). s.events) c.pass.ensures.keeps.only.same ∙ e.counted)) }

pub returns-in-Ok-Ends-clause-hears : goal.returns-in-Ok-Ends-clause-hears
returns-in-Ok-Ends-clause-hears g c image began waits =
    let handled = subst (λ (s : SessionState _). IsHandled s) (sym c.self.view_is) c.requires.stands.handled in
    let the_rules : Rules = rules_by g.R.AccessRule.rule c.args.self.now in
    let w = moved (sym c.self.view_is) waits in
    let none_left = subst (λ (s : SessionState _). received s.log ≤ s.taken) (sym c.self.view_is) c.requires.none_left in
    let limit = ap (λ (s : SessionState _). s.options.max_events) (sym c.self.view_is) in
    let h = c.in-Ok-Ends.ensures.hears the_rules.bounds (entries w.hearing.story) (sends w.hearing.story) limit w.hearing.goes.events w.hearing.goes.items w.hearing.passed.replies w.hearing.goes.phases_are in
    let e = end_heard {was = g.K.Link.seen c.args.link.now} {seen = g.K.Link.seen c.hear.new.link} _ h c.in-Ok-Ends.field-0-is in (
      ends_by w handled none_left c.in-Ok-Ends.ensures.keeps.first c.in-Ok-Ends.ensures.keeps.replies.trial e
          (subst (λ shown. ComesLast (g.K.Link.seen c.hear.new.link).coming (Ok shown)) c.in-Ok-Ends.field-0-is c.in-Ok-Ends.ensures.shows.last),
      λ none. still_takes _ c.in-Ok-Ends.ensures.shows.takes none,
    )

pub returns-in-Err-clause-hears : goal.returns-in-Err-clause-hears
returns-in-Err-clause-hears g c image began waits =
    let handled = subst (λ (s : SessionState _). IsHandled s) (sym c.self.view_is) c.requires.stands.handled in
    let the_rules : Rules = rules_by g.R.AccessRule.rule c.args.self.now in
    let w = moved (sym c.self.view_is) waits in
    let none_left = subst (λ (s : SessionState _). received s.log ≤ s.taken) (sym c.self.view_is) c.requires.none_left in
    let limit = ap (λ (s : SessionState _). s.options.max_events) (sym c.self.view_is) in
    let h = c.in-Err.ensures.hears the_rules.bounds (entries w.hearing.story) (sends w.hearing.story) limit w.hearing.goes.events w.hearing.goes.items w.hearing.passed.replies w.hearing.goes.phases_are in
    let last : ComesLast (g.K.Link.seen c.hear.new.link).coming (Err c.in-Err.fault) = c.in-Err.ensures.shows.last in
    stops_by (g.K.Link.seen c.hear.new.link) c.hear.new.log c.hear.new.replies c.hear.new.events c.in-Err.fault c.stop_at.result w handled none_left c.in-Err.ensures.keeps.first c.in-Err.ensures.keeps.replies.trial c.in-Err.ensures.keeps.stays last h c.in-Err.ensures.shows.takes c.stop_at.ensures

pub returns-in-Ok-Items-clause-keeps : goal.returns-in-Ok-Items-clause-keeps
returns-in-Ok-Items-clause-keeps g c = record {
  link = heard_serves c.in-Ok-Items.field-0 c.pass_due.result c.in-Ok-Items.ensures.shows c.pass_due.ensures.keeps.link;
  same = search rules;
  unnoted = unnoted_passing c.pass_due.result c.pass_due.ensures.keeps.link.broken;
}

pub returns-in-Ok-Closes-clause-keeps : goal.returns-in-Ok-Closes-clause-keeps
returns-in-Ok-Closes-clause-keeps g c = record {
  link = heard_serves c.in-Ok-Closes.field-0 c.close.result c.in-Ok-Closes.ensures.shows c.close.ensures.keeps.link;
  same = search rules;
  unnoted = unnoted_passing c.close.result c.close.ensures.keeps.link.broken;
}

pub returns-in-Ok-Settles-clause-keeps : goal.returns-in-Ok-Settles-clause-keeps
returns-in-Ok-Settles-clause-keeps g c = record {
  link = heard_serves c.in-Ok-Settles.field-0 c.pass.result c.in-Ok-Settles.ensures.shows c.pass.ensures.keeps.link;
  same = search rules;
  unnoted = unnoted_passing c.pass.result c.pass.ensures.keeps.link.broken;
}

pub returns-in-Ok-Ends-clause-keeps : goal.returns-in-Ok-Ends-clause-keeps
returns-in-Ok-Ends-clause-keeps g c = record { link = ended_serves c.in-Ok-Ends.field-0 c.requires.stands.may.gives.gives_still c.in-Ok-Ends.ensures.shows; same = search rules; unnoted = tt }

pub returns-in-Err-clause-keeps : goal.returns-in-Err-clause-keeps
returns-in-Err-clause-keeps g c = record {
  link = stopped_serves c.in-Err.fault c.stop_at.result c.requires.stands.may.gives.gives_still c.in-Err.ensures.shows c.stop_at.ensures;
  same = search rules;
  unnoted = unnoted_stopped c.in-Err.fault c.stop_at.result c.stop_at.ensures;
}
