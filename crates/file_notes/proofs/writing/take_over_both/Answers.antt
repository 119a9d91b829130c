use Rattle.file_notes.proofs.Terms.{names_in}
use Rattle.file_notes.proofs.CallingLemmas.{taking_all, taking_part}
use Rattle.file_notes.proofs.WritingLemmas.{over_all}
use Rattle.file_notes.proofs.writing.take_over_both.Goals as goal

pub returns-in-Ok-start_file-clause-writes : goal.returns-in-Ok-start_file-clause-writes
returns-in-Ok-start_file-clause-writes g c =
    over_all (names_in c.args.names.now) c.args.of_record.now c.args.of_report.now c.requires _ _ _ _ c.add_to_file.result c.in-Ok.ensures.started c.in-Ok-start_file.ensures.writes c.add_to_file.ensures.writes

pub returns-in-Ok-start_file-clause-calls : goal.returns-in-Ok-start_file-clause-calls
returns-in-Ok-start_file-clause-calls g c =
    taking_all (names_in c.args.names.now) _ _ _ _ c.add_to_file.result c.in-Ok.ensures.call c.in-Ok-start_file.ensures.calls c.add_to_file.ensures.calls

pub returns-in-Err-start_file-clause-calls : goal.returns-in-Err-start_file-clause-calls
returns-in-Err-start_file-clause-calls g c = taking_part (names_in c.args.names.now) _ _ _ c.in-Ok.ensures.call c.in-Err-start_file.ensures.calls
