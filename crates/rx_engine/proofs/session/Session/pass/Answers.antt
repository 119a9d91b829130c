use Rattle.rx_engine.proofs.Terms.{refl, rules, subst, sym, ◌∙◌, IsReady, pass_answer, breaks_by, may_pass, passes_ok, held_by, IsToldBy, StandsPassing, SessionState, entries, moment, sends}
use Rattle.rx_engine.proofs.session.Session.pass.Goals as goal

pub pass_until-requires : goal.pass_until-requires
pass_until-requires g c = may_pass (subst (λ (s : SessionState _). StandsPassing (g.K.Link.seen c.args.link.now) s) (sym c.self.view_is) c.requires) c.received-stamp.ensures.count

pub returns-in-Err-clause-passes : goal.returns-in-Err-clause-passes
returns-in-Err-clause-passes g c rules image began story told ready =
    let mine = subst (λ (s : SessionState _). IsToldBy rules image began (g.K.Link.seen c.args.link.now) story s) (sym c.self.view_is) told in
    let here = subst (λ (s : SessionState _). IsReady rules (sends story) (moment story) c.args.until s.replies) (sym c.self.view_is) ready in
    breaks_by c.in-Err.fault told.told (record { low = mine.answers.low; recorded = mine.answers.recorded; choices = mine.answers.choices; unnoted = mine.answers.unnoted; taken = mine.answers.taken; steps = mine.answers.steps }) c.answer_to.ensures
    (held_by rules image story.earlier (entries story) story.recoveries story.survivor _ _ refl refl mine.holds) c.in-Err.ensures.keeps.shows.stops (c.in-Err.ensures.passes rules (sends story) (moment story) (sym mine.received_are ∙ sym c.received-stamp.ensures.count) here)

pub returns-clause-passes : goal.returns-clause-passes
returns-clause-passes g c rules image began story told ready =
    let mine = subst (λ (s : SessionState _). IsToldBy rules image began (g.K.Link.seen c.args.link.now) story s) (sym c.self.view_is) told in
    let here = subst (λ (s : SessionState _). IsReady rules (sends story) (moment story) c.args.until s.replies) (sym c.self.view_is) ready in
    passes_ok (g.K.Link.seen c.pass_until.new.link) c.args.until told.told (c.in_default.ensures.passes rules (sends story) (moment story) (sym mine.received_are ∙ sym c.received-stamp.ensures.count) here)

pub returns-in-Err-clause-keeps : goal.returns-in-Err-clause-keeps
returns-in-Err-clause-keeps g c = record {
  link = record { gives = search rules; rest = c.in-Err.ensures.keeps.shows.rest; broken = pass_answer c.in-Err.fault c.answer_to.result c.answer_to.ensures; cause = search rules };
  only = search rules;
}

pub returns-clause-keeps : goal.returns-clause-keeps
returns-clause-keeps g c = record {
  link = record {
    gives = record { gives_still = c.in_default.ensures.keeps.shows.gives; connected = c.in_default.ensures.keeps.connected };
    rest = c.in_default.ensures.keeps.shows.rest;
    broken = tt;
    cause = search rules;
  };
  only = search rules;
}
