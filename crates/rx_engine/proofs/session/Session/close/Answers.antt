use Rattle.rx_engine.proofs.Terms.{refl, rules, subst, sym, ◌∙◌, ◌≡◌, Ledger, IsClosing, CanGive, pass_answer, breaks_by, may_pass, rest_ok, closed_can, closing_can, due_behind, gives_closed, passed_then, received_given, rest_passed, held_by, held_given, IsToldBy, StandsClosing, SessionState, HasPassed, Story, entries, moment, sends, then_story}
use Rattle.rx_engine.proofs.session.Session.close.Goals as goal

pub pass_rest-requires-clause-may : goal.pass_rest-requires-clause-may
pass_rest-requires-clause-may g c =
    let stands = subst (λ (s : SessionState _). StandsClosing (g.K.Link.seen c.args.link.now) c.args.conn s) (sym c.self.view_is) c.requires in
    may_pass (record { can = closing_can stands; gives = stands.gives }) c.received-stamp.ensures.count

pub returns-in-Err-clause-passes : goal.returns-in-Err-clause-passes
returns-in-Err-clause-passes g c rules image began story hold told closing =
    let mine = subst (λ (s : SessionState _). IsToldBy rules image began (g.K.Link.seen c.args.link.now) story s) (sym c.self.view_is) told in
    let here = subst (λ (s : SessionState _). IsClosing rules (sends story) (moment story) c.args.conn s.replies) (sym c.self.view_is) closing in
    breaks_by c.in-Err.fault told.told (record { low = mine.answers.low; recorded = mine.answers.recorded; choices = mine.answers.choices; unnoted = mine.answers.unnoted; taken = mine.answers.taken; steps = mine.answers.steps }) c.answer_to.ensures
    (held_by rules image story.earlier (entries story) story.recoveries story.survivor _ _ refl refl mine.holds) c.in-Err.ensures.keeps.shows.stops (c.in-Err.ensures.passes rules (sends story) (moment story) (sym mine.received_are ∙ sym c.received-stamp.ensures.count) here)

pub pass_due-requires : goal.pass_due-requires
pass_due-requires g c =
    let stands = subst (λ (s : SessionState _). StandsClosing (g.K.Link.seen c.args.link.now) c.args.conn s) (sym c.self.view_is) c.requires in
    record {
      can = closed_can (g.K.Link.seen c.pass_rest.new.link) stands (c.in_default.ensures.passes stands.rules (sends stands.story) (moment stands.story) (sym stands.received_are ∙ sym c.received-stamp.ensures.count) stands.closing)
          (c.in_default.ensures.keeps.sends.trial ∙ stands.no_trial) refl c.closes.ensures;
      gives = subst (λ (l : Ledger). CanGive (g.K.Link.seen c.pass_rest.new.link) l) (sym c.closes.ensures)
          (gives_closed c.args.conn (record { gives_still = c.in_default.ensures.keeps.shows.gives; connected = c.in_default.ensures.keeps.connected }));
    }

pub returns-clause-passes : goal.returns-clause-passes
returns-clause-passes g c rules image began story hold told closing =
    let mine = subst (λ (s : SessionState _). IsToldBy rules image began (g.K.Link.seen c.args.link.now) story s) (sym c.self.view_is) told in
    let stands = subst (λ (s : SessionState _). StandsClosing (g.K.Link.seen c.args.link.now) c.args.conn s) (sym c.self.view_is) c.requires in
    let low : rules.hold ≡ c.self.inside.hold = subst (λ (s : SessionState _). rules.hold ≡ s.hold) (sym c.self.view_is) hold in
    let here = subst (λ (s : SessionState _). IsClosing rules (sends story) (moment story) c.args.conn s.replies) (sym c.self.view_is) closing in
    let rest = rest_ok (g.K.Link.seen c.pass_rest.new.link) told.told (c.in_default.ensures.passes rules (sends story) (moment story) (sym mine.received_are ∙ sym c.received-stamp.ensures.count) here) in
    let after : Story = then_story story rest.0 in
    let passed : HasPassed rules after c.closes.new.self =
    subst (HasPassed rules after) (sym c.closes.ensures) (rest_passed rest.0 here (c.in_default.ensures.keeps.sends.trial ∙ stands.no_trial) rest.1 rest.2 rest.3 rest.4) in
    due_behind rules image began (g.K.Link.seen c.pass_due.new.link) story rest.0 c.pass_due.new.self c.pass_due.result rest.1
    (c.pass_due.ensures.passes rules image began after low
    (record {
      told = rest.2;
      answers = record { low = mine.answers.low; recorded = mine.answers.recorded; choices = mine.answers.choices; unnoted = mine.answers.unnoted; taken = mine.answers.taken; steps = mine.answers.steps };
      holds = held_by rules image story.earlier (entries after) story.recoveries story.survivor _ _ refl refl (held_given story rest.0 rest.1 mine.holds);
      received_are = mine.received_are ∙ sym (received_given rules.bounds story rest.0 rest.1);
    })
    passed)

pub returns-in-Err-clause-keeps : goal.returns-in-Err-clause-keeps
returns-in-Err-clause-keeps g c = record {
  link = record { gives = search rules; rest = c.in-Err.ensures.keeps.shows.rest; broken = pass_answer c.in-Err.fault c.answer_to.result c.answer_to.ensures; cause = search rules };
  only = search rules;
}

pub returns-clause-keeps : goal.returns-clause-keeps
returns-clause-keeps g c = record { only = search rules; link = passed_then c.in_default.ensures.keeps.shows.rest c.in_default.ensures.keeps.shows.cause.later c.in_default.ensures.keeps.shows.cause.takes c.pass_due.ensures.keeps.link }
