use Rattle.rx_engine.proofs.Terms.{Err, Ok, ap, arith, refl, rules, subst, sym, ◌+◌, oldest_of, adopt_breaks, adopt_least, adopt_none, adopt_some, adopted_later, adopting_in, counts_seen, failure_of, slots_oldest, KeepsOldest, SessionState}
use Rattle.rx_engine.proofs.HeldLemmas.{AdoptsFrom, beside, fails_as, left_oldest, recovers_at, session_of}
use Rattle.rx_engine.proofs.session.Session.adopt.Goals as goal

pub recover-requires : goal.recover-requires
recover-requires g c =
    let f = fails_as g.R.AccessRule.rule (sym c.self.view_is) c.requires.1.is in
    record { can = record { failure = failure_of f; under = refl; has = recovers_at f c.self.invariant.few_budget c.self.invariant.some_keep c.self.invariant.few_items c.pc-pc.ensures } }

pub returns-in-Some-clause-adopts : goal.returns-in-Some-clause-adopts
returns-in-Some-clause-adopts g c image began seen lost =
    subst (AdoptsFrom g.R.AccessRule.rule image (record began { tables = g.W.Watch.tables c.args.watch.now }) (record began { lost = lost; tables = g.W.Watch.tables c.recover.new.watch }) seen (g.W.Watch.ran c.recover.new.watch + c.args.steps.now) (g.W.Watch.ran c.args.watch.now + c.recover.new.steps) c.args.cause c.count_run.new.self (Ok c.in-Ok.recovered)) c.self.view_is
    (λ f counts.
    let has = recovers_at f c.self.invariant.few_budget c.self.invariant.some_keep c.self.invariant.few_items c.pc-pc.ensures in
    adopting_in (sym c.count_run.ensures)
    (adopt_some f (c.in-Ok.ensures.recovers (failure_of f) f.going.story.survivor.begun refl has) c.in-Ok.ensures.left (beside c.self.inside c.in-Ok.ensures.kept) c.in-Some.is
    (counts_seen lost began.lost _ _ counts (ap (λ (s : SessionState _). s.steps) c.count_run.ensures) refl) (c.in-Ok.ensures.watched (failure_of f) refl has)))

pub returns-in-None-clause-adopts : goal.returns-in-None-clause-adopts
returns-in-None-clause-adopts g c image began seen lost =
    subst (AdoptsFrom g.R.AccessRule.rule image (record began { tables = g.W.Watch.tables c.args.watch.now }) (record began { lost = lost; tables = g.W.Watch.tables c.recover.new.watch }) seen (g.W.Watch.ran c.recover.new.watch + c.args.steps.now) (g.W.Watch.ran c.args.watch.now + c.recover.new.steps) c.args.cause _ (Ok c.in-Ok.recovered)) c.self.view_is
    (λ f counts.
    let has = recovers_at f c.self.invariant.few_budget c.self.invariant.some_keep c.self.invariant.few_items c.pc-pc.ensures in
    adopt_none f (c.in-Ok.ensures.recovers (failure_of f) f.going.story.survivor.begun refl has) c.in-Ok.ensures.left (beside c.self.inside c.in-Ok.ensures.kept) c.in-None.is counts (c.in-Ok.ensures.watched (failure_of f) refl has))

pub returns-in-Err-clause-adopts : goal.returns-in-Err-clause-adopts
returns-in-Err-clause-adopts g c image began seen lost =
    subst (AdoptsFrom g.R.AccessRule.rule image (record began { tables = g.W.Watch.tables c.args.watch.now }) (record began { lost = lost; tables = g.W.Watch.tables c.recover.new.watch }) seen (g.W.Watch.ran c.recover.new.watch + c.args.steps.now) (g.W.Watch.ran c.args.watch.now + c.recover.new.steps) c.args.cause _ (Err c.in-Err.e)) c.self.view_is
    (λ f counts.
    let has = recovers_at f c.self.invariant.few_budget c.self.invariant.some_keep c.self.invariant.few_items c.pc-pc.ensures in
    adopt_breaks f c.in-Err.ensures.left.1.saved c.in-Err.ensures.left.0 (beside c.self.inside c.in-Err.ensures.kept) (c.in-Err.ensures.recovers (failure_of f) f.going.story.survivor.begun refl has) counts (c.in-Err.ensures.watched (failure_of f) refl has))

pub returns-in-Some-clause-least : goal.returns-in-Some-clause-least
returns-in-Some-clause-least g c =
    let f = fails_as g.R.AccessRule.rule (sym c.self.view_is) c.requires.1.is in
    let h = c.in-Ok.ensures.recovers (failure_of f) f.going.story.survivor.begun refl (recovers_at f c.self.invariant.few_budget c.self.invariant.some_keep c.self.invariant.few_items c.pc-pc.ensures) in
    omega (arith, adopt_least f h c.in-Some.is, ap (λ (s : SessionState _). s.steps) c.count_run.ensures, ap (λ (s : SessionState _). s.steps) c.self.view_is)

pub returns-in-Some-clause-keeps : goal.returns-in-Some-clause-keeps
returns-in-Some-clause-keeps g c =
    let later = adopted_later c.requires.1.is in
    let until = ap (λ (s : SessionState _). s.until) c.count_run.ensures in
    let taken = ap (λ (s : SessionState _). s.taken) c.self.view_is in
    let keeps = ap (λ (s : SessionState _). s.options.keep) c.self.view_is in
    let oldest = subst (λ (s : SessionState _). KeepsOldest s c.count_run.new.self) c.self.view_is (subst (λ (s : SessionState _). KeepsOldest (session_of c.self.inside) s) (sym c.count_run.ensures)
    (left_oldest (beside c.self.inside c.in-Ok.ensures.kept) (slots_oldest c.in-Ok.recovered.adopted _ _ c.in-Ok.ensures.left.slots) c.in-Ok.ensures.left.bytes.first)) in
    record {
      frame = search rules;
      oldest = oldest;
      keeping = oldest.keeping;
      opened = search rules;
      marked = search rules;
      later = λ goes. record { past = omega (arith, until, taken, keeps, later.0); most = omega (arith, until, taken, keeps, later.1) };
    }

pub returns-in-None-clause-keeps : goal.returns-in-None-clause-keeps
returns-in-None-clause-keeps g c =
    let oldest = subst (λ (s : SessionState _). KeepsOldest s (session_of (record c.self.inside { held = c.recover.new.self }))) c.self.view_is
    (left_oldest (beside c.self.inside c.in-Ok.ensures.kept) (slots_oldest c.in-Ok.recovered.adopted _ _ c.in-Ok.ensures.left.slots) c.in-Ok.ensures.left.bytes.first) in
    record {
      frame = search rules;
      oldest = oldest;
      keeping = oldest.keeping;
      opened = search rules;
      marked = search rules;
      later = search rules;
    }

pub returns-in-Err-clause-keeps : goal.returns-in-Err-clause-keeps
returns-in-Err-clause-keeps g c =
    let oldest = subst (λ (s : SessionState _). KeepsOldest s (session_of (record c.self.inside { held = c.recover.new.self }))) c.self.view_is
    (left_oldest (beside c.self.inside c.in-Err.ensures.kept) (ap (λ saved. oldest_of saved) c.in-Err.ensures.left.1.saved) c.in-Err.ensures.left.2.first) in
    record {
      frame = search rules;
      oldest = oldest;
      keeping = oldest.keeping;
      opened = search rules;
      marked = search rules;
      later = search rules;
    }
