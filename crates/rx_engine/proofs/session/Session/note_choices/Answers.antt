use Rattle.recovery.proofs.ForgetLemmas.{behind_marks}
use Rattle.session_history.specs.declared.ends.Stop.TheVariants as stop
use Rattle.session_state.proofs.guest.RecordingLemmas.{up_to_safe, waits_up_to, waits_same}
use Rattle.rx_engine.proofs.Terms.{Err, List, rules, subst, sym, ◌≡◌, IfSome, oldest_of, note_answered, cut_as, cut_short, noted_low, noted_up, notes_noted, notes_stopped, moved, waits_left, waits_unnoted, FailsAtChoices, rules_by, Since}
use Rattle.rx_engine.proofs.HeldLemmas.{session_of}
use Rattle.rx_engine.proofs.UnnotedLemmas.{failed_unnoted}
use Rattle.rx_engine.proofs.session.Session.note_choices.Goals as goal

pub note_up_to-requires : goal.note_up_to-requires
note_up_to-requires g c =
    let w = moved (sym c.self.view_is) c.requires.waits.is in
    let h = w.hearing in
    waits_left w (behind_marks h.saved.ring c.oldest_marks-safe.result c.oldest_marks-safe.ensures).1

pub returns-in-Err-clause-waits : goal.returns-in-Err-clause-waits
returns-in-Err-clause-waits g c image began seen takes waits =
    let told : Since = record began { noted = (g.N.Notes.shown c.note_up_to.new.notes).told } in
    waits_same (rules_by g.R.AccessRule.rule c.args.self.now) image told seen _ (Err (stop.Breaks c.note_answer.result)) c.in-Err.ensures.noted.1 c.in-Err.ensures.noted.2
    (waits_unnoted began (g.N.Notes.shown c.args.notes.now) (g.N.Notes.shown c.note_up_to.new.notes) (moved (sym c.self.view_is) waits) takes (note_answered c.in-Err.fault c.note_answer.result c.note_answer.ensures) c.in-Err.ensures.noted.0 c.in-Err.ensures.keeps.episodes c.in-Err.ensures.noted.3)

pub returns-clause-waits : goal.returns-clause-waits
returns-clause-waits g c image began seen takes waits =
    let w = moved (sym c.self.view_is) waits in
    let h = w.hearing in
    let marks = behind_marks h.saved.ring c.oldest_marks-safe.result c.oldest_marks-safe.ensures in
    waits_up_to began (g.N.Notes.shown c.args.notes.now) (g.N.Notes.shown c.note_up_to.new.notes) w marks.0 marks.1
    (noted_low c.oldest_marks-safe.result c.oldest_marks-safe.ensures h.saved.ring h.saved.early)
    c.in_default.ensures.noted c.in_default.ensures.keeps

pub returns-clause-keeps : goal.returns-clause-keeps
returns-clause-keeps g c =
    let w = moved (sym c.self.view_is) c.requires.waits.is in
    let h = w.hearing in
    let up = noted_up c.self.inside.held.cpu c.oldest_marks-safe.result c.oldest_marks-safe.ensures in
    let low = noted_low c.oldest_marks-safe.result c.oldest_marks-safe.ensures h.saved.ring h.saved.early in
    record {
      notes = notes_noted c.in_default.ensures.keeps;
      same = search rules;
      recorded = subst (λ n. IfSome (oldest_of c.self.inside.held.cpu.slots.saved) (λ oldest. n ≡ oldest.state.guest.machine.allocations)) (up_to_safe low c.in_default.ensures.noted.1) up;
      broken = search rules;
    }

pub returns-in-Err-clause-keeps : goal.returns-in-Err-clause-keeps
returns-in-Err-clause-keeps g c =
    let w = moved (sym c.self.view_is) c.requires.waits.is in
    let h = w.hearing in
    let cut = cut_as (session_of c.self.inside) c.in-Err.ensures.noted.1 c.in-Err.ensures.noted.2 (cut_short {session = session_of c.self.inside} c.oldest_marks-safe.result c.oldest_marks-safe.ensures h.saved.ring c.in-Err.ensures.noted.4) in
    record {
      notes = notes_stopped c.in-Err.fault c.note_answer.result c.in-Err.ensures.keeps c.note_answer.ensures;
      same = search rules;
      recorded = cut;
      broken = note_answered c.in-Err.fault c.note_answer.result c.note_answer.ensures;
    }

pub returns-in-Err-clause-unnoted : goal.returns-in-Err-clause-unnoted
returns-in-Err-clause-unnoted g c =
    failed_unnoted c.note_answer.result (note_answered c.in-Err.fault c.note_answer.result c.note_answer.ensures)
    (subst (λ (choices : List _). FailsAtChoices (g.N.Notes.shown c.args.notes.now).told.unnoted (g.N.Notes.shown c.note_up_to.new.notes).told.unnoted choices) (sym c.in-Err.ensures.noted.2) c.in-Err.ensures.noted.3)

pub returns-clause-unnoted : goal.returns-clause-unnoted
returns-clause-unnoted g c = c.in_default.ensures.keeps.unnoted
