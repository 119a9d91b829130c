use Rattle.links.specs.declared.journal.LinkEvent.TheVariants as event
use Rattle.rx_engine.proofs.Terms.{Err, Ok, [], ap, arith, inl, inr, refl, subst, sym, ◌∙◌, ◌≡◌, Ledger, Stop, Bounds, ComesLast, unnoted_stopped, heard_serves, close_heard, items_heard, no_cause, one_counted, opens_closed, quiet_event, settle_heard, with_heard, gives_closed, IsStopAt, LinkServes, SessionState, stops_on, asks_more, close_on, end_on, heard_of, may_hear, quiet_on, rules_following, before_heard, held_back}
use Rattle.rx_engine.proofs.session.Session.hear_followed.Goals as goal

pub hear_into-requires : goal.hear_into-requires
hear_into-requires g c = may_hear g.R.AccessRule.rule c.requires.waits.is c.self.view_is c.requires.waits.may.takes

pub returns-in-Ok-Items-clause-hears : goal.returns-in-Ok-Items-clause-hears
returns-in-Ok-Items-clause-hears g c taken image handed before noted_before noted missing w =
    quiet_on g.R.AccessRule.rule c.hear_into.new.log c.hear_into.new.replies c.hear_into.new.events c.hear_into.new.event w c.requires.none_left (heard_of g.R.AccessRule.rule (g.K.Link.seen c.hear_into.new.link) c.hear_into.new.log c.hear_into.new.replies c.hear_into.new.events c.hear_into.new.event (Ok c.in-Ok-Items.field-0) w c.self.view_is c.in-Ok-Items.ensures.hears) (inl c.in-Ok-Items.field-0-is)
    (c.in-Ok-Items.ensures.keeps.first ∙ ap (λ (s : SessionState _). s.log.first) c.self.view_is) (c.in-Ok-Items.ensures.keeps.replies.first ∙ ap (λ (s : SessionState _). s.replies.first) c.self.view_is) (c.in-Ok-Items.ensures.keeps.replies.trial ∙ ap (λ (s : SessionState _). s.replies.trial) c.self.view_is)
    (c.heard_of.ensures ∙ ap (λ (s : SessionState _). record (with_heard s c.hear_into.new.log c.hear_into.new.replies c.hear_into.new.events) { before = before_heard s.before c.hear_into.new.event }) c.self.view_is)

pub returns-in-Ok-Settles-clause-hears : goal.returns-in-Ok-Settles-clause-hears
returns-in-Ok-Settles-clause-hears g c taken image handed before noted_before noted missing w =
    quiet_on g.R.AccessRule.rule c.hear_into.new.log c.hear_into.new.replies c.hear_into.new.events c.hear_into.new.event w c.requires.none_left (heard_of g.R.AccessRule.rule (g.K.Link.seen c.hear_into.new.link) c.hear_into.new.log c.hear_into.new.replies c.hear_into.new.events c.hear_into.new.event (Ok c.in-Ok-Settles.field-0) w c.self.view_is c.in-Ok-Settles.ensures.hears) (inr c.in-Ok-Settles.field-0-is)
    (c.in-Ok-Settles.ensures.keeps.first ∙ ap (λ (s : SessionState _). s.log.first) c.self.view_is) (c.in-Ok-Settles.ensures.keeps.replies.first ∙ ap (λ (s : SessionState _). s.replies.first) c.self.view_is) (c.in-Ok-Settles.ensures.keeps.replies.trial ∙ ap (λ (s : SessionState _). s.replies.trial) c.self.view_is)
    (c.heard_of-in-Ok-Settles.ensures ∙ ap (λ (s : SessionState _). record (with_heard s c.hear_into.new.log c.hear_into.new.replies c.hear_into.new.events) { before = before_heard s.before c.hear_into.new.event }) c.self.view_is)

pub returns-in-Ok-Closes-clause-hears : goal.returns-in-Ok-Closes-clause-hears
returns-in-Ok-Closes-clause-hears g c taken image handed before noted_before noted missing w =
    close_on g.R.AccessRule.rule c.hear_into.new.log c.hear_into.new.replies c.hear_into.new.events c.hear_into.new.event c.in-Ok-Closes.conn w c.requires.none_left (heard_of g.R.AccessRule.rule (g.K.Link.seen c.hear_into.new.link) c.hear_into.new.log c.hear_into.new.replies c.hear_into.new.events c.hear_into.new.event (Ok c.in-Ok-Closes.field-0) w c.self.view_is c.in-Ok-Closes.ensures.hears) c.in-Ok-Closes.field-0-is
    (c.in-Ok-Closes.ensures.keeps.first ∙ ap (λ (s : SessionState _). s.log.first) c.self.view_is) (c.in-Ok-Closes.ensures.keeps.replies.first ∙ ap (λ (s : SessionState _). s.replies.first) c.self.view_is) (c.in-Ok-Closes.ensures.keeps.replies.trial ∙ ap (λ (s : SessionState _). s.replies.trial) c.self.view_is)
    (c.heard_of-in-Ok-Closes.ensures ∙ (λ i. record (with_heard (c.self.view_is i) c.hear_into.new.log (c.closes.ensures i) c.hear_into.new.events) { before = before_heard (c.self.view_is i).before c.hear_into.new.event }))

pub returns-in-Ok-Ends-clause-hears : goal.returns-in-Ok-Ends-clause-hears
returns-in-Ok-Ends-clause-hears g c taken image handed before noted_before noted missing w =
    end_on c.hear_into.new.log c.hear_into.new.replies c.hear_into.new.events c.hear_into.new.event w c.requires.none_left (heard_of g.R.AccessRule.rule (g.K.Link.seen c.hear_into.new.link) c.hear_into.new.log c.hear_into.new.replies c.hear_into.new.events c.hear_into.new.event (Ok c.in-Ok-Ends.field-0) w c.self.view_is c.in-Ok-Ends.ensures.hears) c.in-Ok-Ends.field-0-is
    (subst (λ shown. ComesLast (g.K.Link.seen c.hear_into.new.link).coming (Ok shown)) c.in-Ok-Ends.field-0-is c.in-Ok-Ends.ensures.shows.last)
    (record { recorded = ap (λ (s : SessionState _). s.recorded) c.self.view_is; choices = ap (λ (s : SessionState _). s.choices) c.self.view_is; taken = ap (λ (s : SessionState _). s.taken) c.self.view_is; steps = ap (λ (s : SessionState _). s.steps) c.self.view_is })

pub returns-in-Ok-Items-clause-counts : goal.returns-in-Ok-Items-clause-counts
returns-in-Ok-Items-clause-counts g c =
    let w = c.requires.waits.is in
    let h = heard_of g.R.AccessRule.rule (g.K.Link.seen c.hear_into.new.link) c.hear_into.new.log c.hear_into.new.replies c.hear_into.new.events c.hear_into.new.event (Ok c.in-Ok-Items.field-0) w c.self.view_is c.in-Ok-Items.ensures.hears in
    let e = items_heard {was = g.K.Link.seen c.args.link.now} {seen = g.K.Link.seen c.hear_into.new.link} _ (c.hear_into.new.event, h) c.in-Ok-Items.field-0-is in
    let bounds : Bounds = (rules_following (held_back c.requires.waits.rules) c.requires.waits.handed w.asking.stands.events w.asking.stands.now).bounds in
    let count : c.heard_of.new.self.events ≡ c.hear_into.new.events = λ i. (c.heard_of.ensures i).events in
    record { most = omega (arith, count, c.in-Ok-Items.ensures.keeps.events, ap (λ (s : SessionState _). s.options.max_events) c.self.view_is); later = one_counted bounds [] e.0 _ _ (quiet_event e.0 e.1) w.asking.stands.follows.stands.goes.events (count ∙ e.2.counted) }

pub returns-in-Ok-Settles-clause-counts : goal.returns-in-Ok-Settles-clause-counts
returns-in-Ok-Settles-clause-counts g c =
    let w = c.requires.waits.is in
    let h = heard_of g.R.AccessRule.rule (g.K.Link.seen c.hear_into.new.link) c.hear_into.new.log c.hear_into.new.replies c.hear_into.new.events c.hear_into.new.event (Ok c.in-Ok-Settles.field-0) w c.self.view_is c.in-Ok-Settles.ensures.hears in
    let e = settle_heard {was = g.K.Link.seen c.args.link.now} {seen = g.K.Link.seen c.hear_into.new.link} _ (c.hear_into.new.event, h) c.in-Ok-Settles.field-0-is in
    let bounds : Bounds = (rules_following (held_back c.requires.waits.rules) c.requires.waits.handed w.asking.stands.events w.asking.stands.now).bounds in
    let count : c.heard_of-in-Ok-Settles.new.self.events ≡ c.hear_into.new.events = λ i. (c.heard_of-in-Ok-Settles.ensures i).events in
    record { most = omega (arith, count, c.in-Ok-Settles.ensures.keeps.events, ap (λ (s : SessionState _). s.options.max_events) c.self.view_is); later = one_counted bounds [] event.Settles _ _ refl w.asking.stands.follows.stands.goes.events (count ∙ e.counted) }

pub returns-in-Ok-Closes-clause-counts : goal.returns-in-Ok-Closes-clause-counts
returns-in-Ok-Closes-clause-counts g c =
    let w = c.requires.waits.is in
    let h = heard_of g.R.AccessRule.rule (g.K.Link.seen c.hear_into.new.link) c.hear_into.new.log c.hear_into.new.replies c.hear_into.new.events c.hear_into.new.event (Ok c.in-Ok-Closes.field-0) w c.self.view_is c.in-Ok-Closes.ensures.hears in
    let e = close_heard {was = g.K.Link.seen c.args.link.now} {seen = g.K.Link.seen c.hear_into.new.link} _ (c.hear_into.new.event, h) c.in-Ok-Closes.field-0-is in
    let bounds : Bounds = (rules_following (held_back c.requires.waits.rules) c.requires.waits.handed w.asking.stands.events w.asking.stands.now).bounds in
    let count : c.heard_of-in-Ok-Closes.new.self.events ≡ c.hear_into.new.events = λ i. (c.heard_of-in-Ok-Closes.ensures i).events in
    record { most = omega (arith, count, c.in-Ok-Closes.ensures.keeps.events, ap (λ (s : SessionState _). s.options.max_events) c.self.view_is); later = one_counted bounds [] (event.Closes c.in-Ok-Closes.conn) _ _ refl w.asking.stands.follows.stands.goes.events (count ∙ e.counted) }

pub closes-requires : goal.closes-requires
closes-requires g c =
    let w = c.requires.waits.is in
    let h = heard_of g.R.AccessRule.rule (g.K.Link.seen c.hear_into.new.link) c.hear_into.new.log c.hear_into.new.replies c.hear_into.new.events c.hear_into.new.event (Ok c.in-Ok-Closes.field-0) w c.self.view_is c.in-Ok-Closes.ensures.hears in
    let e = close_heard {was = g.K.Link.seen c.args.link.now} {seen = g.K.Link.seen c.hear_into.new.link} _ (c.hear_into.new.event, h) c.in-Ok-Closes.field-0-is in
    e.heard.replies.opened c.in-Ok-Closes.conn ∙ opens_closed c.in-Ok-Closes.conn w.asking.stands.follows.stands.goes.items e.heard.items

pub returns-in-Ok-Closes-clause-link : goal.returns-in-Ok-Closes-clause-link
returns-in-Ok-Closes-clause-link g c =
    let shows = c.in-Ok-Closes.ensures.shows in
    subst (λ (l : Ledger). LinkServes (g.K.Link.seen c.args.link.now) (g.K.Link.seen c.hear_into.new.link) l (Ok tt)) (sym ((λ i. (c.heard_of-in-Ok-Closes.ensures i).replies) ∙ c.closes.ensures))
    (heard_serves c.in-Ok-Closes.field-0 (Ok tt) shows
    (record {
      gives = gives_closed c.in-Ok-Closes.conn (record { gives_still = shows.gives ∙ c.requires.waits.may.gives.gives_still; connected = shows.connected });
      rest = refl;
      broken = tt;
      cause = no_cause tt (omega arith) (omega arith);
    }))

pub returns-clause-hears : goal.returns-clause-hears
returns-clause-hears g c taken image handed before noted_before noted missing w =
    let h = heard_of g.R.AccessRule.rule (g.K.Link.seen c.hear_into.new.link) c.hear_into.new.log c.hear_into.new.replies c.hear_into.new.events c.hear_into.new.event (Err c.in-Err.fault) w c.self.view_is c.in-Err.ensures.hears in
    let stopped = stops_on {seen = g.K.Link.seen c.hear_into.new.link} c.hear_into.new.log c.hear_into.new.replies c.hear_into.new.events c.in-Err.fault c.stop_at.result w c.requires.none_left h c.in-Err.ensures.shows.last c.stop_at.ensures in
    record {
      waited = record {
        here = _;
        seen = g.K.Link.seen c.args.link.now;
        was = c.args.self.now;
        waits = w;
        same = record { recorded = ap (λ (s : SessionState _). s.recorded) c.self.view_is; choices = ap (λ (s : SessionState _). s.choices) c.self.view_is; taken = ap (λ (s : SessionState _). s.taken) c.self.view_is; steps = ap (λ (s : SessionState _). s.steps) c.self.view_is };
      };
      last = stopped.last;
      heard = stopped.heard;
      cause = stopped.cause;
    }

pub returns-clause-asked : goal.returns-clause-asked
returns-clause-asked g c taken image handed before noted_before noted missing why w is =
    let h = heard_of g.R.AccessRule.rule (g.K.Link.seen c.hear_into.new.link) c.hear_into.new.log c.hear_into.new.replies c.hear_into.new.events c.hear_into.new.event (Err c.in-Err.fault) w c.self.view_is c.in-Err.ensures.hears in
    let same : c.stop_at.result ≡ why = cc in
    let stopped = stops_on {seen = g.K.Link.seen c.hear_into.new.link} c.hear_into.new.log c.hear_into.new.replies c.hear_into.new.events c.in-Err.fault why w c.requires.none_left h c.in-Err.ensures.shows.last (subst (λ (w : Stop). IsStopAt c.in-Err.fault w) same c.stop_at.ensures) in (
      record {
        waited = record {
          here = _;
          seen = g.K.Link.seen c.args.link.now;
          was = c.args.self.now;
          waits = w;
          same = record { recorded = ap (λ (s : SessionState _). s.recorded) c.self.view_is; choices = ap (λ (s : SessionState _). s.choices) c.self.view_is; taken = ap (λ (s : SessionState _). s.taken) c.self.view_is; steps = ap (λ (s : SessionState _). s.steps) c.self.view_is };
        };
        last = stopped.last;
        heard = stopped.heard;
        cause = stopped.cause;
      },
      asks_more w.asking.stands.alone w c.requires.none_left,
    )

pub returns-in-Ok-Items-clause-gives : goal.returns-in-Ok-Items-clause-gives
returns-in-Ok-Items-clause-gives g c = c.in-Ok-Items.ensures.shows.gives ∙ c.requires.waits.may.gives.gives_still

pub returns-in-Ok-Items-clause-asked : goal.returns-in-Ok-Items-clause-asked
returns-in-Ok-Items-clause-asked g c taken image handed before noted_before noted missing why w is = absurd (let never : ⊥ = cc in never)

pub returns-in-Ok-Settles-clause-gives : goal.returns-in-Ok-Settles-clause-gives
returns-in-Ok-Settles-clause-gives g c = c.in-Ok-Settles.ensures.shows.gives ∙ c.requires.waits.may.gives.gives_still

pub returns-in-Ok-Settles-clause-asked : goal.returns-in-Ok-Settles-clause-asked
returns-in-Ok-Settles-clause-asked g c taken image handed before noted_before noted missing why w is = absurd (let never : ⊥ = cc in never)

pub returns-in-Ok-Closes-clause-gives : goal.returns-in-Ok-Closes-clause-gives
returns-in-Ok-Closes-clause-gives g c = c.in-Ok-Closes.ensures.shows.gives ∙ c.requires.waits.may.gives.gives_still

pub returns-in-Ok-Closes-clause-asked : goal.returns-in-Ok-Closes-clause-asked
returns-in-Ok-Closes-clause-asked g c taken image handed before noted_before noted missing why w is = absurd (let never : ⊥ = cc in never)

pub returns-in-Ok-Ends-clause-gives : goal.returns-in-Ok-Ends-clause-gives
returns-in-Ok-Ends-clause-gives g c = c.in-Ok-Ends.ensures.shows.gives ∙ c.requires.waits.may.gives.gives_still

pub returns-in-Ok-Ends-clause-asked : goal.returns-in-Ok-Ends-clause-asked
returns-in-Ok-Ends-clause-asked g c taken image handed before noted_before noted missing why w is = absurd (let never : ⊥ = cc in never)

pub returns-clause-gives : goal.returns-clause-gives
returns-clause-gives g c = c.in-Err.ensures.shows.gives ∙ c.requires.waits.may.gives.gives_still

pub returns-clause-unnoted : goal.returns-clause-unnoted
returns-clause-unnoted g c = unnoted_stopped c.in-Err.fault c.stop_at.result c.stop_at.ensures
