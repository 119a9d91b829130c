use Rattle.rx_engine.proofs.Terms.{Err, None, Ok, ap, arith, refl, subst, sym, ℕ, ◌+◌, ◌-◌, ◌∙◌, Seen, Keeping, known_same, between_under, comes_between, passed_frame, same_rules, passed_oldest, trimmed_still, going_can, going_told, keeping_of, AreInRange, rules_by, SessionState, Since, told_since, released_goes, took_off, TookOver}
use Rattle.rx_engine.proofs.ReleaseLemmas.{answers_later, passing_answers, passing_notes, took_on_served}
use Rattle.rx_engine.proofs.session.Session.serve_released.Goals as goal

pub pass_due-requires : goal.pass_due-requires
pass_due-requires g c = record { can = going_can (released_goes None c.requires.is); gives = c.requires.may.gives }

pub returns-in-Err-clause-served : goal.returns-in-Err-clause-served
returns-in-Err-clause-served g c = record {
  why = c.in-Err.stop;
  is = c.answer.ensures;
  served = λ taken image handed told noted_before r.
      let tables = g.W.Watch.tables c.args.watch.now in
      let going = released_goes tables r in
      let only = c.in-Err.ensures.keeps.only in
      let link = c.in-Err.ensures.keeps.link in
      subst (λ (k : Keeping). TookOver taken image handed k told (g.K.Link.seen c.args.link.now) (g.K.Link.seen c.pass_due.new.link) noted_before (g.N.Notes.shown c.args.notes.now).told ((g.W.Watch.ran c.args.watch.now + c.args.steps.now + c.args.self.now.steps) - (g.W.Watch.ran c.args.watch.now + c.args.steps.now)) tables tables c.pass_due.new.self c.in-Err.stop)
      (ap (λ (s : SessionState _). keeping_of s) only.same)
      (took_off tables c.in-Err.stop r
      (comes_between (g.K.Link.seen c.pass_due.new.link) going (Err c.in-Err.stop) only.same only.first (λ conn. ap (λ (s : Seen). s.phases conn) link.rest) (ap (λ (s : Seen). s.takes) link.rest ∙ c.requires.may.takes)
      (c.in-Err.ensures.passes (rules_by g.R.AccessRule.rule c.args.self.now) image _ going.story refl (going_told going) going.passed)) link.broken
      (trimmed_still (passed_oldest only.same only.first) c.requires.trimmed) (let steps = ap (λ (s : SessionState _). s.steps) only.same in omega (arith, steps)));
  keeping = ap (λ (s : SessionState _). keeping_of s) c.in-Err.ensures.keeps.only.same;
  link = passing_answers c.in-Err.stop c.requires.may.takes c.in-Err.ensures.keeps.link;
  notes = passing_notes c.in-Err.stop c.in-Err.ensures.keeps.link.broken;
}

pub serve_on-requires : goal.serve_on-requires
serve_on-requires g c =
    let tables = g.W.Watch.tables c.args.watch.now in
    let going = released_goes tables c.requires.is in
    let only = c.in_default.ensures.keeps.only in
    let link = c.in_default.ensures.keeps.link in
    record {
      image = c.requires.image;
      began = told_since (g.K.Link.seen c.args.link.now).told c.requires.noted_before (g.N.Notes.shown c.args.notes.now).told tables tables 0;
      is = between_under (sym (same_rules g.R.AccessRule.rule (passed_frame {old = c.args.self.now} {mid = c.args.self.now} {new = c.pass_due.new.self} only.same (record { options = refl; rule = refl; before = refl; hold = refl }))))
          (comes_between (g.K.Link.seen c.pass_due.new.link) going (Ok c.in_default.field-0) only.same only.first (λ conn. ap (λ (s : Seen). s.phases conn) link.rest) (ap (λ (s : Seen). s.takes) link.rest ∙ c.requires.may.takes)
          (c.in_default.ensures.passes (rules_by g.R.AccessRule.rule c.args.self.now) c.requires.image _ going.story refl (going_told going) going.passed));
      may = record { takes = ap (λ (s : Seen). s.takes) link.rest ∙ c.requires.may.takes; gives = link.gives };
      trimmed = trimmed_still (passed_oldest only.same only.first) c.requires.trimmed;
      in_range = subst AreInRange (ap (λ (s : SessionState _). s.options) c.self.view_is ∙ sym (ap (λ (s : SessionState _). s.options) only.same)) c.self.invariant;
    }

pub returns-clause-served : goal.returns-clause-served
returns-clause-served g c =
    let h = c.serve_on.ensures.served in
    let only = c.in_default.ensures.keeps.only in
    let link = c.in_default.ensures.keeps.link in
    record {
      why = h.why;
      is = h.is;
      served = λ taken image handed told noted_before r.
          let tables = g.W.Watch.tables c.args.watch.now in
          let began : Since = told_since (g.K.Link.seen c.args.link.now).told noted_before (g.N.Notes.shown c.args.notes.now).told tables tables 0 in
          let going = released_goes tables r in
          let frame = passed_frame {old = c.args.self.now} {mid = c.args.self.now} {new = c.pass_due.new.self} only.same (record { options = refl; rule = refl; before = refl; hold = refl }) in
          let between = between_under (sym (same_rules g.R.AccessRule.rule frame))
          (comes_between (g.K.Link.seen c.pass_due.new.link) going (Ok c.in_default.field-0) only.same only.first (λ conn. ap (λ (s : Seen). s.phases conn) link.rest) (ap (λ (s : Seen). s.takes) link.rest ∙ c.requires.may.takes)
          (c.in_default.ensures.passes (rules_by g.R.AccessRule.rule c.args.self.now) image _ going.story refl (going_told going) going.passed)) in
          took_on_served g.R.AccessRule.rule h.why r frame (ap (λ (s : SessionState _). keeping_of s) only.same)
          (let steps = ap (λ (s : SessionState _). s.steps) only.same in ap (λ (n : ℕ). (g.W.Watch.ran c.args.watch.now + c.serve_on.new.steps + n) - (g.W.Watch.ran c.serve_on.new.watch + c.args.steps.now)) steps)
          (h.served image began (g.K.Link.seen c.args.link.now) (known_same (ap (λ (s : Seen). s.coming) link.rest)) between);
      keeping = h.keeping ∙ ap (λ (s : SessionState _). keeping_of s) only.same;
      link = answers_later (known_same (ap (λ (s : Seen). s.coming) link.rest)) link.cause.takes link.cause.gives h.link;
      notes = h.notes;
    }
