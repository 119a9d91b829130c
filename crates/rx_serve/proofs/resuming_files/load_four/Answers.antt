use Rattle.rx_serve.proofs.Lemmas.{same_loads, four_called_none, four_called_one, four_called_three, four_called_two, four_no_counts, four_no_record, four_no_report}
use Rattle.rx_serve.proofs.Terms.{Ok, ◌∙◌, Err, resume_shown}
use Rattle.rx_serve.proofs.resuming_files.load_four.Goals as goal

pub returns-in-Err-clause-calls : goal.returns-in-Err-clause-calls
returns-in-Err-clause-calls g c = four_called_none (resume_shown c.args.resume.now) _ _ c.in-Err.answer c.in-Err.ensures.calls

pub returns-in-Err-load_file-clause-loads : goal.returns-in-Err-load_file-clause-loads
returns-in-Err-load_file-clause-loads g c =
    four_no_record _ (resume_shown c.args.resume.now) c.in-Err-load_file.answer c.in-Ok.ensures.loads (same_loads _ _ (Err c.in-Err-load_file.answer) c.in-Ok.ensures.same c.in-Err-load_file.ensures.loads)

pub returns-in-Err-load_file-clause-calls : goal.returns-in-Err-load_file-clause-calls
returns-in-Err-load_file-clause-calls g c = four_called_one (resume_shown c.args.resume.now) _ _ _ c.in-Err-load_file.answer c.in-Ok.ensures.calls c.in-Err-load_file.ensures.calls

pub returns-in-Err-load_file-2-clause-loads : goal.returns-in-Err-load_file-2-clause-loads
returns-in-Err-load_file-2-clause-loads g c =
    four_no_report _ (resume_shown c.args.resume.now) c.in-Err-load_file-2.answer c.in-Ok.ensures.loads (same_loads _ _ (Ok c.in-Ok-load_file.recorded) c.in-Ok.ensures.same c.in-Ok-load_file.ensures.loads)
    (same_loads _ _ (Err c.in-Err-load_file-2.answer) (c.in-Ok-load_file.ensures.same ∙ c.in-Ok.ensures.same) c.in-Err-load_file-2.ensures.loads)

pub returns-in-Err-load_file-2-clause-calls : goal.returns-in-Err-load_file-2-clause-calls
returns-in-Err-load_file-2-clause-calls g c =
    four_called_two (resume_shown c.args.resume.now) _ _ _ _ c.in-Err-load_file-2.answer c.in-Ok.ensures.calls c.in-Ok-load_file.ensures.calls c.in-Err-load_file-2.ensures.calls

pub returns-in-Err-load_file-3-clause-loads : goal.returns-in-Err-load_file-3-clause-loads
returns-in-Err-load_file-3-clause-loads g c =
    four_no_counts _ (resume_shown c.args.resume.now) c.in-Err-load_file-3.answer c.in-Ok.ensures.loads (same_loads _ _ (Ok c.in-Ok-load_file.recorded) c.in-Ok.ensures.same c.in-Ok-load_file.ensures.loads)
    (same_loads _ _ (Ok c.in-Ok-load_file-2.reported) (c.in-Ok-load_file.ensures.same ∙ c.in-Ok.ensures.same) c.in-Ok-load_file-2.ensures.loads)
    (same_loads _ _ (Err c.in-Err-load_file-3.answer) (c.in-Ok-load_file-2.ensures.same ∙ c.in-Ok-load_file.ensures.same ∙ c.in-Ok.ensures.same) c.in-Err-load_file-3.ensures.loads)

pub returns-in-Err-load_file-3-clause-calls : goal.returns-in-Err-load_file-3-clause-calls
returns-in-Err-load_file-3-clause-calls g c =
    four_called_three (resume_shown c.args.resume.now) _ _ _ _ _ c.in-Err-load_file-3.answer c.in-Ok.ensures.calls c.in-Ok-load_file.ensures.calls c.in-Ok-load_file-2.ensures.calls c.in-Err-load_file-3.ensures.calls
