use Rattle.session_history.specs.declared.ends.SessionBreak.TheVariants as session_break
use Rattle.session_history.specs.declared.ends.Stop.TheVariants as stop
use Rattle.session_state.specs.Serving.{end_of}
use Rattle.rx_engine.proofs.Terms.{Err, None, Some, ap, refl, rules, sym, ℕ, ◌+◌, ◌∙◌, ◌≡◌, Seen, note_answered, unnoted_passing, adopted_serves, asking_notes, episode_stopped, memory_serves, noting_serves, passing_serves, unnoted_serves, lost_counts, lost_then, if_ok, comes_between, comes_lost, ends_adopted, failing_told, gives_same, goes_adopted, lost_behind, missed_episode, noted_episode, one_more, passed_adopted, passed_counted, passed_frame, oldest_then, passed_oldest, going_can, going_told, still_takes, keeping_of, rules_by, SessionState, Since}
use Rattle.rx_engine.proofs.session.Session.recover.Goals as goal

pub returns-in-Err-clause-turns : goal.returns-in-Err-clause-turns
returns-in-Err-clause-turns g c image began lost fails counts =
    let before : Since = record began { tables = g.W.Watch.tables c.args.watch.now; noted = (g.N.Notes.shown c.args.notes.now).told } in
    (c.in-Err.ensures.adopts image before (g.K.Link.seen c.args.link.now) lost fails counts, λ none. still_takes _ c.requires.may.takes none)

pub returns-in-Err-episode-clause-turns : goal.returns-in-Err-episode-clause-turns
returns-in-Err-episode-clause-turns g c image began lost fails counts =
    let the_rules = rules_by g.R.AccessRule.rule c.args.self.now in
    let before : Since = record began { tables = g.W.Watch.tables c.args.watch.now; noted = (g.N.Notes.shown c.args.notes.now).told } in
    let more : ℕ = lost_then began.lost c.args.self.now.steps c.adopt.new.self.steps (g.W.Watch.ran c.adopt.new.watch + c.args.steps.now) (g.W.Watch.ran c.args.watch.now + c.adopt.new.steps) in
    let all = lost_counts began.lost c.args.self.now.steps c.adopt.new.self.steps (g.W.Watch.ran c.adopt.new.watch + c.args.steps.now) (g.W.Watch.ran c.args.watch.now + c.adopt.new.steps) c.in-Ok.ensures.least in
    let adopting = c.in-Ok.ensures.adopts image before (g.K.Link.seen c.args.link.now) more fails all in
    let told = (g.N.Notes.shown c.episode.new.self).told in
    let later : Since = record began { lost = more; tables = g.W.Watch.tables c.adopt.new.watch; noted = told } in
    let off = adopting.breaks c.note_answer.result (note_answered c.in-Err-episode.fault c.note_answer.result c.note_answer.ensures) told (missed_episode c.in-Err-episode.ensures.shows) in
    comes_lost the_rules image later (g.K.Link.seen c.args.link.now) c.adopt.new.self (Err (stop.Breaks c.note_answer.result))
    (lost_behind (g.W.Watch.ran c.adopt.new.watch + c.args.steps.now) counts all refl)
    (off, λ none. still_takes _ c.requires.may.takes none)

pub returns-in-Some-clause-turns : goal.returns-in-Some-clause-turns
returns-in-Some-clause-turns g c image began lost fails counts =
    let the_rules = rules_by g.R.AccessRule.rule c.args.self.now in
    let before : Since = record began { tables = g.W.Watch.tables c.args.watch.now; noted = (g.N.Notes.shown c.args.notes.now).told } in
    let more : ℕ = lost_then began.lost c.args.self.now.steps c.adopt.new.self.steps (g.W.Watch.ran c.adopt.new.watch + c.args.steps.now) (g.W.Watch.ran c.args.watch.now + c.adopt.new.steps) in
    let all = lost_counts began.lost c.args.self.now.steps c.adopt.new.self.steps (g.W.Watch.ran c.adopt.new.watch + c.args.steps.now) (g.W.Watch.ran c.args.watch.now + c.adopt.new.steps) c.in-Ok.ensures.least in
    let adopting = c.in-Ok.ensures.adopts image before (g.K.Link.seen c.args.link.now) more fails all in
    let told = (g.N.Notes.shown c.episode.new.self).told in
    let later : Since = record began { lost = more; tables = g.W.Watch.tables c.adopt.new.watch; noted = told } in
    let with_episode = noted_episode c.in_default.ensures.shows in
    let found : end_of c.args.self.now.taken c.args.cause c.in-Ok.recovered.adopted ≡ Some c.in-Some.end = ap (λ n. end_of n c.args.cause c.in-Ok.recovered.adopted) (sym (ap (λ (s : SessionState _). s.taken) c.self.view_is)) ∙ (sym c.end_of.ensures ∙ c.in-Some.is) in
    comes_lost the_rules image later (g.K.Link.seen c.args.link.now) c.adopt.new.self (Err (stop.Ends c.in-Some.end))
    (lost_behind (g.W.Watch.ran c.adopt.new.watch + c.args.steps.now) counts all refl)
    (ends_adopted _ c.requires.may.takes found (adopting.goes told with_episode))

pub pass_due-requires : goal.pass_due-requires
pass_due-requires g c =
    let the_rules = rules_by g.R.AccessRule.rule c.args.self.now in
    let f = c.requires in
    let lost : ℕ = lost_then f.began.lost c.args.self.now.steps c.adopt.new.self.steps (g.W.Watch.ran c.adopt.new.watch + c.args.steps.now) (g.W.Watch.ran c.args.watch.now + c.adopt.new.steps) in
    let counts = lost_counts f.began.lost c.args.self.now.steps c.adopt.new.self.steps (g.W.Watch.ran c.adopt.new.watch + c.args.steps.now) (g.W.Watch.ran c.args.watch.now + c.adopt.new.steps) c.in-Ok.ensures.least in
    let none : end_of c.args.self.now.taken c.args.cause c.in-Ok.recovered.adopted ≡ None = ap (λ n. end_of n c.args.cause c.in-Ok.recovered.adopted) (sym (ap (λ (s : SessionState _). s.taken) c.self.view_is)) ∙ (sym c.end_of.ensures ∙ c.in_default-end_of.is) in
    let then = one_more f.began in
    record {
      can = going_can (goes_adopted _ none ((c.in-Ok.ensures.adopts f.image f.began (g.K.Link.seen c.args.link.now) lost (failing_told f.tables_are f.is) counts).goes then.0 then.1));
      gives = gives_same c.in-Ok.ensures.keeps.opened c.requires.may.gives;
    }

pub returns-clause-turns : goal.returns-clause-turns
returns-clause-turns g c image began lost fails counts =
    let the_rules = rules_by g.R.AccessRule.rule c.args.self.now in
    let before : Since = record began { tables = g.W.Watch.tables c.args.watch.now; noted = (g.N.Notes.shown c.args.notes.now).told } in
    let more : ℕ = lost_then began.lost c.args.self.now.steps c.adopt.new.self.steps (g.W.Watch.ran c.adopt.new.watch + c.args.steps.now) (g.W.Watch.ran c.args.watch.now + c.adopt.new.steps) in
    let all = lost_counts began.lost c.args.self.now.steps c.adopt.new.self.steps (g.W.Watch.ran c.adopt.new.watch + c.args.steps.now) (g.W.Watch.ran c.args.watch.now + c.adopt.new.steps) c.in-Ok.ensures.least in
    let adopting = c.in-Ok.ensures.adopts image before (g.K.Link.seen c.args.link.now) more fails all in
    let told = (g.N.Notes.shown c.episode.new.self).told in
    let later : Since = record began { lost = more; tables = g.W.Watch.tables c.adopt.new.watch; noted = told } in
    let with_episode = noted_episode c.in_default.ensures.shows in
    let none : end_of c.args.self.now.taken c.args.cause c.in-Ok.recovered.adopted ≡ None = ap (λ n. end_of n c.args.cause c.in-Ok.recovered.adopted) (sym (ap (λ (s : SessionState _). s.taken) c.self.view_is)) ∙ (sym c.end_of.ensures ∙ c.in_default-end_of.is) in
    let going = goes_adopted _ none (adopting.goes told with_episode) in
    let hold = sym c.in-Ok.ensures.keeps.frame.hold in
    let steps : c.pass_due.new.self.steps ≡ c.adopt.new.self.steps = ap (λ (s : SessionState _). s.steps) c.pass_due.ensures.keeps.only.same in
    comes_lost the_rules image later (g.K.Link.seen c.pass_due.new.link) c.pass_due.new.self c.pass_due.result
    (lost_behind (g.W.Watch.ran c.adopt.new.watch + c.args.steps.now) counts all steps)
    (comes_between (g.K.Link.seen c.pass_due.new.link) going c.pass_due.result c.pass_due.ensures.keeps.only.same c.pass_due.ensures.keeps.only.first (λ conn. ap (λ (s : Seen). s.phases conn) c.pass_due.ensures.keeps.link.rest) (ap (λ (s : Seen). s.takes) c.pass_due.ensures.keeps.link.rest ∙ c.requires.may.takes)
    (c.pass_due.ensures.passes the_rules image later going.story hold (going_told going) going.passed))

pub returns-in-Err-clause-keeps : goal.returns-in-Err-clause-keeps
returns-in-Err-clause-keeps g c = record {
  link = memory_serves c.requires.may.gives.gives_still;
  notes = unnoted_serves (Err (stop.Breaks session_break.Memory)) tt;
  frame = c.in-Err.ensures.keeps.frame;
  oldest = c.in-Err.ensures.keeps.oldest;
  keeping = c.in-Err.ensures.keeps.keeping;
  marked = search rules;
  later = search rules;
}

pub returns-in-Err-episode-clause-keeps : goal.returns-in-Err-episode-clause-keeps
returns-in-Err-episode-clause-keeps g c =
    let note = note_answered c.in-Err-episode.fault c.note_answer.result c.note_answer.ensures in
    record {
      link = noting_serves (stop.Breaks c.note_answer.result) (record { takes = c.requires.may.takes; gives = gives_same c.in-Ok.ensures.keeps.opened c.requires.may.gives }) note;
      notes = episode_stopped c.in-Err-episode.fault c.note_answer.result c.in-Err-episode.ensures.shows c.note_answer.ensures;
      frame = c.in-Ok.ensures.keeps.frame;
      oldest = c.in-Ok.ensures.keeps.oldest;
      keeping = c.in-Ok.ensures.keeps.keeping;
      marked = search rules;
      later = search rules;
    }

pub returns-in-Some-clause-keeps : goal.returns-in-Some-clause-keeps
returns-in-Some-clause-keeps g c =
    let found : end_of c.args.self.now.taken c.args.cause c.in-Ok.recovered.adopted ≡ Some c.in-Some.end = ap (λ n. end_of n c.args.cause c.in-Ok.recovered.adopted) (sym (ap (λ (s : SessionState _). s.taken) c.self.view_is)) ∙ (sym c.end_of.ensures ∙ c.in-Some.is) in
    record {
      link = adopted_serves c.args.self.now.taken c.args.cause c.in-Ok.recovered.adopted (record { takes = c.requires.may.takes; gives = gives_same c.in-Ok.ensures.keeps.opened c.requires.may.gives }) found;
      notes = record { cause = record { later = c.in_default.ensures.shows.cause.later; file_fault = λ is. absurd (let never : ⊥ = cc in never) } };
      frame = c.in-Ok.ensures.keeps.frame;
      oldest = c.in-Ok.ensures.keeps.oldest;
      keeping = c.in-Ok.ensures.keeps.keeping;
      marked = search rules;
      later = search rules;
    }

pub returns-clause-keeps : goal.returns-clause-keeps
returns-clause-keeps g c =
    let none : end_of c.args.self.now.taken c.args.cause c.in-Ok.recovered.adopted ≡ None = ap (λ n. end_of n c.args.cause c.in-Ok.recovered.adopted) (sym (ap (λ (s : SessionState _). s.taken) c.self.view_is)) ∙ (sym c.end_of.ensures ∙ c.in_default-end_of.is) in
    record {
      link = passing_serves c.pass_due.result c.requires.may.takes c.pass_due.ensures.keeps.link;
      notes = asking_notes c.pass_due.result (record { cause = record { later = c.in_default.ensures.shows.cause.later; file_fault = λ is. absurd (let never : ⊥ = cc in never) } }) (unnoted_passing c.pass_due.result c.pass_due.ensures.keeps.link.broken);
      frame = passed_frame c.pass_due.ensures.keeps.only.same c.in-Ok.ensures.keeps.frame;
      oldest = oldest_then c.in-Ok.ensures.keeps.oldest (passed_oldest c.pass_due.ensures.keeps.only.same c.pass_due.ensures.keeps.only.first);
      keeping = ap (λ (s : SessionState _). keeping_of s) c.pass_due.ensures.keeps.only.same ∙ c.in-Ok.ensures.keeps.keeping;
      marked = if_ok _ c.pass_due.result (passed_counted c.pass_due.ensures.keeps.only.same (c.in-Ok.ensures.keeps.marked none));
      later = if_ok _ c.pass_due.result (passed_adopted c.pass_due.ensures.keeps.only.same (c.in-Ok.ensures.keeps.later none));
    }
