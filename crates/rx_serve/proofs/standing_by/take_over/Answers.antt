use Rattle.rx_serve.proofs.Lemmas.{broken_faults, broken_off, closed_text, closes_as, first_short, none_short, served_faults, served_no_file, serves_as, unstarted_faults}
use Rattle.rx_serve.proofs.Terms.{arith, inl, inr, refl, subst, sym, ◌-◌, ◌∙◌, Answer, standby_shown, IsFilesAnswer, CallsRecording}
use Rattle.rx_serve.proofs.StandbyLemmas.{counts_fit}
use Rattle.rx_serve.proofs.standing_by.take_over.Goals as goal

-- ---- following broke off

pub returns-in-Err-clause-takes : goal.returns-in-Err-clause-takes
returns-in-Err-clause-takes g c =
    inl (broken_off _ _ c.of_unfollowed.result c.in-Err.unfollowed c.in-Err.ensures.counted_more c.in-Err.ensures.catches refl refl c.of_unfollowed.ensures.answer c.of_unfollowed.ensures.differs c.of_unfollowed.ensures.nothing)

pub returns-in-Err-clause-faults : goal.returns-in-Err-clause-faults
returns-in-Err-clause-faults g c =
    let more = c.in-Err.ensures.counted_more in
    let breaks = c.in-Err.ensures.catches (c.catch_up_trunk.new.steps - c.args.steps.now) (omega (arith, more)) in
    broken_faults breaks _ _ c.of_unfollowed.result.answer c.in-Err.ensures.link.2 c.of_unfollowed.ensures.answer

-- ---- nothing was served

pub returns-in-Some-clause-takes : goal.returns-in-Some-clause-takes
returns-in-Some-clause-takes g c =
    let up = c.in-Ok.ensures.catches.0 in
    inr (inl (record {
      counted = c.in-Ok.ensures.catches.1;
      entries = up.up.entries;
      sends = up.up.sends;
      follows = up.follows;
      stops = inl (c.in-Some.conn, c.without_session.ensures.answer, first_short _ _ up.up.sends up.up.kept c.in-Some.conn c.in-Some.ensures, refl, refl);
      nothing = c.without_session.ensures.nothing;
      differs = c.without_session.ensures.differs;
    }))

pub returns-in-Err-start_recording-clause-takes : goal.returns-in-Err-start_recording-clause-takes
returns-in-Err-start_recording-clause-takes g c =
    let up = c.in-Ok.ensures.catches.0 in
    let fault = c.in-Err-start_recording.fault in
    inr (inl (record {
      counted = c.in-Ok.ensures.catches.1;
      entries = up.up.entries;
      sends = up.up.sends;
      follows = up.follows;
      stops =
          inr (
            fault,
            subst (λ (a : Answer). IsFilesAnswer fault a) (sym c.without_session-in-Err-start_recording.ensures.answer) c.note_answer.ensures,
            none_short _ _ up.up.sends up.up.kept c.in_default.ensures,
            c.in-Err-start_recording.ensures.starts,
            c.in-Err-start_recording.ensures.calls,
          );
      nothing = c.without_session-in-Err-start_recording.ensures.nothing;
      differs = c.without_session-in-Err-start_recording.ensures.differs;
    }))

pub returns-in-Err-start_recording-clause-faults : goal.returns-in-Err-start_recording-clause-faults
returns-in-Err-start_recording-clause-faults g c =
    let fault = c.in-Err-start_recording.fault in
    let note : IsFilesAnswer fault c.without_session-in-Err-start_recording.result.answer =
    subst (λ (a : Answer). IsFilesAnswer fault a) (sym c.without_session-in-Err-start_recording.ensures.answer) c.note_answer.ensures in
    unstarted_faults _ _ fault c.without_session-in-Err-start_recording.result.answer note c.in-Err-start_recording.ensures.cause

-- ---- the run was served on

pub end_recording-answer-requires-clause-steps : goal.end_recording-answer-requires-clause-steps
end_recording-answer-requires-clause-steps g c =
    let up = c.in-Ok.ensures.catches.0 in
    let serves = c.serve_on_trunk-ended.ensures.serves c.args.link.now c.args.takeover.now.image c.args.takeover.now.recorded up.up c.requires.new c.catch_up_trunk.ensures.went in
    let fits = counts_fit serves c.requires.ready.recorded_is c.requires.ready.short c.requires.budget.1 in
    omega (arith, fits.0, c.into_end-followed.ensures.steps)

pub end_recording-answer-requires-clause-taken : goal.end_recording-answer-requires-clause-taken
end_recording-answer-requires-clause-taken g c =
    let up = c.in-Ok.ensures.catches.0 in
    let serves = c.serve_on_trunk-ended.ensures.serves c.args.link.now c.args.takeover.now.image c.args.takeover.now.recorded up.up c.requires.new c.catch_up_trunk.ensures.went in
    let fits = counts_fit serves c.requires.ready.recorded_is c.requires.ready.short c.requires.budget.1 in
    omega (arith, fits.1, c.into_end-followed.ensures.taken)

pub returns-clause-takes : goal.returns-clause-takes
returns-clause-takes g c =
    let up = c.in-Ok.ensures.catches.0 in
    let value = standby_shown c.args.standby.now in
    let end = c.of_takeover.result in
    let followed = c.into_end-followed.ensures in
    let serves = c.serve_on_trunk-ended.ensures.serves c.args.link.now c.args.takeover.now.image c.args.takeover.now.recorded up.up c.requires.new c.catch_up_trunk.ensures.went in
    let closes =
    closes_as value c.into_end-followed.result.tail (g.F.Files.told c.start_recording.new.files) (g.F.Files.told c.end_recording-answer.new.files) c.serve_on_trunk-ended.result c.of_takeover.ensures.steps c.of_takeover.ensures.taken c.of_takeover.ensures.answer c.end_recording-answer.ensures.closes in
    inr (inr (record {
      counted = omega (arith, c.serve_on_trunk-ended.ensures.counted, up.up.at_end, c.in-Ok.ensures.catches.1, followed.steps, c.of_takeover.ensures.steps);
      entries = up.up.entries;
      sends = up.up.sends;
      input_followed = g.S.Source.told c.catch_up_trunk.new.link.source;
      output_followed = g.K.Sink.told c.catch_up_trunk.new.link.sink;
      follows = up.follows;
      covered = none_short _ _ up.up.sends up.up.kept c.in_default.ensures;
      files_started = g.F.Files.told c.start_recording.new.files;
      starts = c.in_default-start_recording.ensures.starts;
      ended = c.serve_on_trunk-ended.result;
      choices = c.into_end-followed.result.tail;
      serves = serves_as (sym followed.tail) (sym (c.of_takeover.ensures.steps ∙ followed.steps)) (sym (c.of_takeover.ensures.taken ∙ followed.taken)) serves;
      told = c.of_takeover.ensures.told;
      closes = closes;
      text = λ at_end. closed_text value c.args.takeover.now.recorded c.into_end-followed.result.tail end.steps end.taken _ _ _ c.serve_on_trunk-ended.result end.answer c.in_default-start_recording.ensures.starts closes at_end;
      calls_started = g.F.Files.calls c.start_recording.new.files;
      started = c.in_default-start_recording.ensures.calls;
      closing = subst (λ (a : Answer). CallsRecording value (g.F.Files.calls c.start_recording.new.files) (g.F.Files.calls c.end_recording-answer.new.files) c.serve_on_trunk-ended.result a) (sym c.of_takeover.ensures.answer) c.end_recording-answer.ensures.calls;
      differs = c.of_takeover.ensures.differs;
    }))

pub returns-clause-faults : goal.returns-clause-faults
returns-clause-faults g c =
    let up = c.in-Ok.ensures.catches.0 in
    let serves = c.serve_on_trunk-ended.ensures.serves c.args.link.now c.args.takeover.now.image c.args.takeover.now.recorded up.up c.requires.new c.catch_up_trunk.ensures.went in
    served_faults (standby_shown c.args.standby.now) _ _ _ _ _ c.serve_on_trunk-ended.result c.end_recording-answer.result c.of_takeover.result.answer c.in_default-start_recording.ensures.cause.later c.end_recording-answer.ensures.file_fault
    (served_no_file serves) c.end_recording-answer.ensures.later c.in-Ok.ensures.link.2.takes c.in-Ok.ensures.link.2.gives c.serve_on_trunk-ended.ensures.cause c.end_recording-answer.ensures.closes c.of_takeover.ensures.answer
