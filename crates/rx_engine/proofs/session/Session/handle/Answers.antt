use Rattle.rx_engine.proofs.Terms.{None, ap, rules, subst, sym, ◌∙◌, is_open, stops_under, waits_under, waits_untold, noted_frame, same_rules, saved_frame, IsHandled, keeping_of, SessionState, Since}
use Rattle.rx_engine.proofs.session.Session.handle.Goals as goal

pub save-requires : goal.save-requires
save-requires g c = record { seen = c.requires.seen; waits = c.requires.waits }

pub note_choices-requires : goal.note_choices-requires
note_choices-requires g c =
    let same = same_rules g.R.AccessRule.rule (saved_frame {old = c.args.self.now} c.save.ensures.keeps.same c.save.ensures.keeps.rule) in
    let w = c.requires.waits in
    record { seen = c.requires.seen; waits = record { image = w.image; began = w.began; is = waits_under (sym same) (c.save.ensures.waits w.image w.began _ w.is) } }

pub returns-in-Err-clause-waits : goal.returns-in-Err-clause-waits
returns-in-Err-clause-waits g c image began seen takes waits =
    let same = same_rules g.R.AccessRule.rule (saved_frame {old = c.args.self.now} c.save.ensures.keeps.same c.save.ensures.keeps.rule) in
    let after : Since = record began { noted = (g.N.Notes.shown c.note_choices.new.notes).told } in
    let before : Since = record began { noted = (g.N.Notes.shown c.args.notes.now).told } in
    stops_under image after seen c.note_choices.new.self c.in-Err.stop same (c.in-Err.ensures.waits image began seen takes (waits_under (sym same) (c.save.ensures.waits image before _ waits)))

pub returns-in-Err-clause-keeps : goal.returns-in-Err-clause-keeps
returns-in-Err-clause-keeps g c = record {
  same = search rules;
  live = search rules;
  rule = search rules;
  keeping = ap (λ (s : SessionState _). keeping_of s) c.note_choices.ensures.keeps.same ∙ c.save.ensures.keeps.keeping;
  opened = search rules;
  notes = c.in-Err.ensures.keeps.notes;
  unnoted = c.in-Err.ensures.unnoted;
  handled = tt;
  trimmed = tt;
  broken = c.in-Err.ensures.keeps.broken;
  episodes = c.note_choices.ensures.episodes;
  none = (c.in-Err.ensures.none.0, ap (λ (s : SessionState _). s.recorded) c.in-Err.ensures.none.1 ∙ ap (λ (s : SessionState _). s.recorded) c.save.ensures.keeps.same, ap (λ (s : SessionState _). s.choices) c.in-Err.ensures.none.1 ∙ ap (λ (s : SessionState _). s.choices) c.save.ensures.keeps.same);
}

pub forget-requires : goal.forget-requires
forget-requires g c =
    let same = same_rules g.R.AccessRule.rule (saved_frame {old = c.args.self.now} c.save.ensures.keeps.same c.save.ensures.keeps.rule) in
    let then = same_rules g.R.AccessRule.rule (noted_frame {old = c.save.new.self} c.in_default.ensures.keeps.same) in
    let w = c.requires.waits in
    let began : Since = record w.began { noted_before = record { choices = None; episodes = None; unnoted = (g.N.Notes.shown c.args.notes.now).told.unnoted } } in
    let stood = waits_under (sym same) (c.save.ensures.waits w.image (record began { noted = (g.N.Notes.shown c.args.notes.now).told }) _ (waits_untold w.is)) in
    let after : Since = record began { noted = (g.N.Notes.shown c.note_choices.new.notes).told } in
    let told = waits_under (sym then) (c.in_default.ensures.waits w.image began c.requires.seen c.requires.takes stood) in
    record { seen = c.requires.seen; waits = record { image = w.image; began = after; is = told } }

pub returns-clause-waits : goal.returns-clause-waits
returns-clause-waits g c image began seen takes waits =
    let same = same_rules g.R.AccessRule.rule (saved_frame {old = c.args.self.now} c.save.ensures.keeps.same c.save.ensures.keeps.rule) in
    let then = same_rules g.R.AccessRule.rule (noted_frame {old = c.save.new.self} c.in_default.ensures.keeps.same) in
    let after : Since = record began { noted = (g.N.Notes.shown c.note_choices.new.notes).told } in
    let before : Since = record began { noted = (g.N.Notes.shown c.args.notes.now).told } in
    let told = waits_under (sym then) (c.in_default.ensures.waits image began seen takes (waits_under (sym same) (c.save.ensures.waits image before _ waits))) in
    waits_under (then ∙ same) (c.forget.ensures.waits image after _ told)

pub returns-clause-keeps : goal.returns-clause-keeps
returns-clause-keeps g c = record {
  same = search rules;
  live = search rules;
  rule = search rules;
  keeping = ap (λ (s : SessionState _). keeping_of s) c.forget.ensures.keeps.same ∙ (ap (λ (s : SessionState _). keeping_of s) c.note_choices.ensures.keeps.same ∙ c.save.ensures.keeps.keeping);
  opened = λ conn. c.forget.ensures.keeps.opened conn ∙ (ap (λ (s : SessionState _). is_open s.replies.connections conn) c.note_choices.ensures.keeps.same ∙ ap (λ (s : SessionState _). is_open s.replies.connections conn) c.save.ensures.keeps.same);
  notes = c.in_default.ensures.keeps.notes;
  unnoted = c.in_default.ensures.unnoted;
  handled = subst (λ (s : SessionState _). IsHandled s) (sym c.forget.ensures.keeps.same) (subst (λ (s : SessionState _). IsHandled s) (sym c.note_choices.ensures.keeps.same) c.save.ensures.handled);
  trimmed = c.forget.ensures.keeps.trimmed c.in_default.ensures.keeps.recorded;
  broken = tt;
  episodes = c.note_choices.ensures.episodes;
  none = tt;
}
