use Rattle.rx_serve.proofs.Lemmas.{options_in_range, window_few, window_is, run_all, run_none, run_part, has_begun, no_memory, not_loaded, not_started}
use Rattle.rx_serve.proofs.Terms.{front_all, run_shown, before_session}
use Rattle.rx_serve.proofs.serving.begin_session.Goals as goal

pub options_of-options-requires : goal.options_of-options-requires
options_of-options-requires g c = window_few (run_shown c.args.run.now) c.requires.in_range

pub load_image-requires : goal.load_image-requires
load_image-requires g c = window_is (run_shown c.args.run.now) c.requires.in_range c.options_of-options.result c.options_of-options.ensures

pub begin-requires-clause-in_range : goal.begin-requires-clause-in_range
begin-requires-clause-in_range g c = options_in_range (run_shown c.args.run.now) c.requires.in_range c.options_of-options.result c.options_of-options.ensures

pub returns-in-Err-clause-begins : goal.returns-in-Err-clause-begins
returns-in-Err-clause-begins g c =
    not_loaded (run_shown c.args.run.now) _ _ c.options_of-options.result c.in-Err.answer c.options_of-options.ensures c.in-Err.ensures.loads c.in-Err.ensures.same

pub returns-in-Err-clause-calls : goal.returns-in-Err-clause-calls
returns-in-Err-clause-calls g c = run_none (run_shown c.args.run.now) _ _ c.in-Err.answer c.in-Err.ensures.calls

pub returns-in-Err-start_notes-clause-begins : goal.returns-in-Err-start_notes-clause-begins
returns-in-Err-start_notes-clause-begins g c =
    not_started (run_shown c.args.run.now) _ _ _ c.options_of-options.result c.in-Err-start_notes.fault c.note_answer.result c.options_of-options.ensures c.in-Ok.ensures.loads c.in-Ok.ensures.same
    c.in-Err-start_notes.ensures.starts c.note_answer.ensures

pub returns-in-Err-start_notes-clause-calls : goal.returns-in-Err-start_notes-clause-calls
returns-in-Err-start_notes-clause-calls g c = run_part (run_shown c.args.run.now) _ _ _ c.in-Ok.ensures.calls c.in-Err-start_notes.ensures.calls

pub returns-in-Ok-begin-clause-begins : goal.returns-in-Ok-begin-clause-begins
returns-in-Ok-begin-clause-begins g c =
    has_begun (run_shown c.args.run.now) _ _ _ c.options_of-options.result c.options_of-options.ensures c.in-Ok.ensures.loads c.in-Ok.ensures.same c.in_default.ensures.starts c.in-Ok-begin.ensures

pub returns-in-Ok-begin-clause-calls : goal.returns-in-Ok-begin-clause-calls
returns-in-Ok-begin-clause-calls g c = run_all (run_shown c.args.run.now) _ _ _ c.in-Ok.ensures.calls c.in_default.ensures.calls

pub returns-clause-begins : goal.returns-clause-begins
returns-clause-begins g c =
    no_memory (run_shown c.args.run.now) _ _ _ c.options_of-options.result c.options_of-options.ensures c.in-Ok.ensures.loads c.in-Ok.ensures.same c.in_default.ensures.starts

pub returns-clause-calls : goal.returns-clause-calls
returns-clause-calls g c = front_all _ _ (before_session (run_shown c.args.run.now)) (run_all (run_shown c.args.run.now) _ _ _ c.in-Ok.ensures.calls c.in_default.ensures.calls)
