use Rattle.recovery.specs.Forgetting.{Forgets}
use Rattle.rx_engine.proofs.Terms.{rules, subst, sym, Recoverable, forgot_up, moved, waits_forgets, waits_forgot, IsRecorded, IsTrimmed, rules_by, SessionState, entries}
use Rattle.rx_engine.proofs.HeldLemmas.{held_as, session_of}
use Rattle.rx_engine.proofs.session.Session.forget.Goals as goal

pub forget-requires : goal.forget-requires
forget-requires g c = record { can = waits_forgets (moved (sym c.self.view_is) c.requires.waits.is) }

pub returns-clause-waits : goal.returns-clause-waits
returns-clause-waits g c image began seen waits =
    let the_rules = rules_by g.R.AccessRule.rule c.args.self.now in
    let w = moved (sym c.self.view_is) waits in
    let story = w.hearing.story in
    moved (held_as c.self.inside c.forget.ensures.rest)
    (waits_forgot w
    (subst (λ (held : Recoverable _). Forgets the_rules image (entries story) story.survivor.plan story.survivor.now w.hearing.saved.paths held.cpu c.forget.new.self.log c.forget.new.self.replies) c.forget.ensures.rest
    (c.forget.ensures.forgets the_rules image (entries story) story.survivor.plan story.survivor.now w.hearing.saved.paths w.hearing.saved.ring w.hearing.goes.items w.hearing.passed.replies)) c.forget.ensures.trial)

pub returns-clause-keeps : goal.returns-clause-keeps
returns-clause-keeps g c =
    let w = moved (sym c.self.view_is) c.requires.waits.is in
    let story = w.hearing.story in
    record {
      same = search rules;
      trimmed = λ recorded.
          subst (λ (s : SessionState _). IsTrimmed s) (held_as c.self.inside c.forget.ensures.rest)
          (forgot_up {old = session_of c.self.inside} w.hearing.saved.ring c.forget.ensures.first c.forget.ensures.first_send (subst (λ (s : SessionState _). IsRecorded s) (sym c.self.view_is) recorded));
      opened = search rules;
    }
