use Rattle.rx_engine.proofs.Terms.{None, ap, rules, subst, sym, ◌∙◌, Ledger, is_open, asking_notes, noting_serves, trims_any, trims_cut, comes_under, stops_under, waits_under, waits_untold, gives_same, forgot_frame, noted_frame, same_rules, saved_frame, trimmed_still, IsHandled, keeping_of, MayServe, SessionState, Since}
use Rattle.rx_engine.proofs.session.Session.ask.Goals as goal

pub save-requires : goal.save-requires
save-requires g c = record { seen = g.K.Link.seen c.args.link.now; waits = c.requires.waits }

pub note_choices-requires : goal.note_choices-requires
note_choices-requires g c =
    let same = same_rules g.R.AccessRule.rule (saved_frame {old = c.args.self.now} c.save.ensures.keeps.same c.save.ensures.keeps.rule) in
    let w = c.requires.waits in
    record { seen = g.K.Link.seen c.args.link.now; waits = record { image = w.image; began = w.began; is = waits_under (sym same) (c.save.ensures.waits w.image w.began _ w.is) } }

pub returns-in-Err-clause-turns : goal.returns-in-Err-clause-turns
returns-in-Err-clause-turns g c image began waits =
    let same = same_rules g.R.AccessRule.rule (saved_frame {old = c.args.self.now} c.save.ensures.keeps.same c.save.ensures.keeps.rule) in
    let after : Since = record began { noted = (g.N.Notes.shown c.note_choices.new.notes).told } in
    let before : Since = record began { noted = (g.N.Notes.shown c.args.notes.now).told } in
    stops_under image after (g.K.Link.seen c.args.link.now) c.note_choices.new.self c.in-Err.stop same
    (c.in-Err.ensures.waits image began (g.K.Link.seen c.args.link.now) c.requires.may.takes (waits_under (sym same) (c.save.ensures.waits image before _ waits)))

pub returns-in-Err-clause-keeps : goal.returns-in-Err-clause-keeps
returns-in-Err-clause-keeps g c = record {
  link = noting_serves c.in-Err.stop
      (subst (λ (l : Ledger). MayServe (g.K.Link.seen c.args.link.now) l) (sym (ap (λ (s : SessionState _). s.replies) c.note_choices.ensures.keeps.same ∙ ap (λ (s : SessionState _). s.replies) c.save.ensures.keeps.same)) c.requires.may) c.in-Err.ensures.keeps.broken;
  notes = c.in-Err.ensures.keeps.notes;
  until = search rules;
  frame = search rules;
  keeping = ap (λ (s : SessionState _). keeping_of s) c.note_choices.ensures.keeps.same ∙ c.save.ensures.keeps.keeping;
  trimmed = trims_cut (g.N.Notes.shown c.args.notes.now) (g.N.Notes.shown c.note_choices.new.notes) c.in-Err.stop c.in-Err.ensures.keeps.broken c.in-Err.ensures.keeps.recorded;
  marked = search rules;
  later = search rules;
}

pub forget-requires : goal.forget-requires
forget-requires g c =
    let same = same_rules g.R.AccessRule.rule (saved_frame {old = c.args.self.now} c.save.ensures.keeps.same c.save.ensures.keeps.rule) in
    let then = same_rules g.R.AccessRule.rule (noted_frame {old = c.save.new.self} c.in_default.ensures.keeps.same) in
    let w = c.requires.waits in
    let began : Since = record w.began { noted_before = record { choices = None; episodes = None; unnoted = (g.N.Notes.shown c.args.notes.now).told.unnoted } } in
    let stood = waits_under (sym same) (c.save.ensures.waits w.image (record began { noted = (g.N.Notes.shown c.args.notes.now).told }) _ (waits_untold w.is)) in
    let after : Since = record began { noted = (g.N.Notes.shown c.note_choices.new.notes).told } in
    let told = waits_under (sym then) (c.in_default.ensures.waits w.image began (g.K.Link.seen c.args.link.now) c.requires.may.takes stood) in
    record { seen = g.K.Link.seen c.args.link.now; waits = record { image = w.image; began = after; is = told } }

pub receive-requires : goal.receive-requires
receive-requires g c =
    let same = same_rules g.R.AccessRule.rule (saved_frame {old = c.args.self.now} c.save.ensures.keeps.same c.save.ensures.keeps.rule) in
    let then = same_rules g.R.AccessRule.rule (noted_frame {old = c.save.new.self} c.in_default.ensures.keeps.same) in
    let w = c.requires.waits in
    let began : Since = record w.began { noted_before = record { choices = None; episodes = None; unnoted = (g.N.Notes.shown c.args.notes.now).told.unnoted } } in
    let stood = waits_under (sym same) (c.save.ensures.waits w.image (record began { noted = (g.N.Notes.shown c.args.notes.now).told }) _ (waits_untold w.is)) in
    let after : Since = record began { noted = (g.N.Notes.shown c.note_choices.new.notes).told } in
    let told = waits_under (sym then) (c.in_default.ensures.waits w.image began (g.K.Link.seen c.args.link.now) c.requires.may.takes stood) in
    let last = same_rules g.R.AccessRule.rule (forgot_frame {old = c.note_choices.new.self} c.forget.ensures.keeps.same) in
    record {
      waits = record { image = w.image; began = after; is = waits_under (sym last) (c.forget.ensures.waits w.image after _ told) };
      handled = subst (λ (s : SessionState _). IsHandled s) (sym c.forget.ensures.keeps.same) (subst (λ (s : SessionState _). IsHandled s) (sym c.note_choices.ensures.keeps.same) c.save.ensures.handled);
      marked = search rules;
      may = record {
        takes = c.requires.may.takes;
        gives = gives_same (λ conn. c.forget.ensures.keeps.opened conn
            ∙ (ap (λ (s : SessionState _). is_open s.replies.connections conn) c.note_choices.ensures.keeps.same ∙ ap (λ (s : SessionState _). is_open s.replies.connections conn) c.save.ensures.keeps.same)) c.requires.may.gives;
      };
    }

pub returns-clause-turns : goal.returns-clause-turns
returns-clause-turns g c image began waits =
    let same = same_rules g.R.AccessRule.rule (saved_frame {old = c.args.self.now} c.save.ensures.keeps.same c.save.ensures.keeps.rule) in
    let then = same_rules g.R.AccessRule.rule (noted_frame {old = c.save.new.self} c.in_default.ensures.keeps.same) in
    let last = same_rules g.R.AccessRule.rule (forgot_frame {old = c.note_choices.new.self} c.forget.ensures.keeps.same) in
    let after : Since = record began { noted = (g.N.Notes.shown c.note_choices.new.notes).told } in
    let before : Since = record began { noted = (g.N.Notes.shown c.args.notes.now).told } in
    let told = waits_under (sym then) (c.in_default.ensures.waits image began (g.K.Link.seen c.args.link.now) c.requires.may.takes (waits_under (sym same) (c.save.ensures.waits image before _ waits))) in
    let kept = waits_under (sym last) (c.forget.ensures.waits image after _ told) in
    comes_under image after (g.K.Link.seen c.receive.new.link) c.receive.new.self c.receive.result (last ∙ (then ∙ same)) (c.receive.ensures.turns image after kept)

pub returns-clause-keeps : goal.returns-clause-keeps
returns-clause-keeps g c = record {
  link = c.receive.ensures.keeps.link;
  notes = asking_notes c.receive.result c.in_default.ensures.keeps.notes c.receive.ensures.keeps.unnoted;
  until = search rules;
  frame = search rules;
  keeping = c.receive.ensures.keeps.oldest.keeping ∙ (ap (λ (s : SessionState _). keeping_of s) c.forget.ensures.keeps.same ∙ (ap (λ (s : SessionState _). keeping_of s) c.note_choices.ensures.keeps.same ∙ c.save.ensures.keeps.keeping));
  trimmed = trims_any (g.N.Notes.shown c.args.notes.now) (g.N.Notes.shown c.note_choices.new.notes) c.receive.result (trimmed_still c.receive.ensures.keeps.oldest (c.forget.ensures.keeps.trimmed c.in_default.ensures.keeps.recorded));
  marked = c.receive.ensures.keeps.marked;
  later = search rules;
}
