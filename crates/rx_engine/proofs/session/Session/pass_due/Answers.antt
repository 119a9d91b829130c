use Rattle.rx_engine.proofs.Terms.{arith, rules, subst, sym, ◌+◌, ◌<◌, ◌≡◌, due_passed, due_ready, none_due, none_passed, SessionState}
use Rattle.rx_engine.proofs.session.Session.pass_due.Goals as goal

pub returns-in-Some-clause-passes : goal.returns-in-Some-clause-passes
returns-in-Some-clause-passes g c rules image began story hold told passed =
    let low : rules.hold ≡ c.self.inside.hold = subst (λ (s : SessionState _). rules.hold ≡ s.hold) (sym c.self.view_is) hold in
    let taken : c.self.inside.taken ≡ story.survivor.now.state.machine.taken = subst (λ (s : SessionState _). s.taken ≡ story.survivor.now.state.machine.taken) (sym c.self.view_is) told.answers.taken in
    let is : c.in-Some.until + rules.hold ≡ story.survivor.now.state.machine.taken = omega (arith, c.in-Some.ensures) in
    due_passed image began (g.K.Link.seen c.pass.new.link) c.in-Some.until c.pass.new.self c.pass.result is passed c.pass.ensures.keeps.only.no_trial
    (c.pass.ensures.passes rules image began story told (due_ready told.told is passed))

pub returns-in-None-clause-passes : goal.returns-in-None-clause-passes
returns-in-None-clause-passes g c rules image began story hold told passed =
    let low : rules.hold ≡ c.self.inside.hold = subst (λ (s : SessionState _). rules.hold ≡ s.hold) (sym c.self.view_is) hold in
    let taken : c.self.inside.taken ≡ story.survivor.now.state.machine.taken = subst (λ (s : SessionState _). s.taken ≡ story.survivor.now.state.machine.taken) (sym c.self.view_is) told.answers.taken in
    let few : story.survivor.now.state.machine.taken < rules.hold = omega (arith, c.in-None.ensures) in
    none_due told.told few passed

pub returns-in-None-clause-keeps : goal.returns-in-None-clause-keeps
returns-in-None-clause-keeps g c = record { link = none_passed c.requires.gives; only = search rules }

pub returns-in-Some-clause-keeps : goal.returns-in-Some-clause-keeps
returns-in-Some-clause-keeps g c = record { link = search rules; only = search rules }
