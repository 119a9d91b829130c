use Rattle.rx_serve.proofs.Lemmas.{called_none, called_one, called_two, no_counts, no_record, same_loads}
use Rattle.rx_serve.proofs.Terms.{Ok, ◌∙◌, Err, standby_shown}
use Rattle.rx_serve.proofs.standby_files.load_texts.Goals as goal

pub returns-in-Err-clause-calls : goal.returns-in-Err-clause-calls
returns-in-Err-clause-calls g c = called_none (standby_shown c.args.standby.now) _ _ c.in-Err.answer c.in-Err.ensures.calls

pub returns-in-Err-load_file-clause-loads : goal.returns-in-Err-load_file-clause-loads
returns-in-Err-load_file-clause-loads g c =
    no_record _ (standby_shown c.args.standby.now) c.in-Err-load_file.answer c.in-Ok.ensures.loads (same_loads _ _ (Err c.in-Err-load_file.answer) c.in-Ok.ensures.same c.in-Err-load_file.ensures.loads)

pub returns-in-Err-load_file-clause-calls : goal.returns-in-Err-load_file-clause-calls
returns-in-Err-load_file-clause-calls g c = called_one (standby_shown c.args.standby.now) _ _ _ c.in-Err-load_file.answer c.in-Ok.ensures.calls c.in-Err-load_file.ensures.calls

pub returns-in-Err-load_file-2-clause-loads : goal.returns-in-Err-load_file-2-clause-loads
returns-in-Err-load_file-2-clause-loads g c =
    no_counts _ (standby_shown c.args.standby.now) c.in-Err-load_file-2.answer c.in-Ok.ensures.loads (same_loads _ _ (Ok c.in-Ok-load_file.recorded) c.in-Ok.ensures.same c.in-Ok-load_file.ensures.loads)
    (same_loads _ _ (Err c.in-Err-load_file-2.answer) (c.in-Ok-load_file.ensures.same ∙ c.in-Ok.ensures.same) c.in-Err-load_file-2.ensures.loads)

pub returns-in-Err-load_file-2-clause-calls : goal.returns-in-Err-load_file-2-clause-calls
returns-in-Err-load_file-2-clause-calls g c =
    called_two (standby_shown c.args.standby.now) _ _ _ _ c.in-Err-load_file-2.answer c.in-Ok.ensures.calls c.in-Ok-load_file.ensures.calls c.in-Err-load_file-2.ensures.calls
