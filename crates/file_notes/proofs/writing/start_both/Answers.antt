use Rattle.file_notes.proofs.Terms.{starts_of, nothing_kept}
use Rattle.file_notes.proofs.CallingLemmas.{calls_behind, front_first}
use Rattle.file_notes.proofs.WritingLemmas.{both}
use Rattle.file_notes.proofs.writing.start_both.Goals as goal

pub returns-in-Ok-clause-writes : goal.returns-in-Ok-clause-writes
returns-in-Ok-clause-writes g c = both nothing_kept _ _ _ c.requires _ _ _ _ c.in-Ok.ensures.writes c.start_file-in-Ok.ensures.writes

pub returns-in-Ok-clause-calls : goal.returns-in-Ok-clause-calls
returns-in-Ok-clause-calls g c = calls_behind _ _ _ (starts_of c.args.names.now.record.now) (starts_of c.args.names.now.report.now) c.start_file-in-Ok.result c.in-Ok.ensures.calls c.start_file-in-Ok.ensures.calls

pub returns-in-Err-clause-calls : goal.returns-in-Err-clause-calls
returns-in-Err-clause-calls g c = front_first (starts_of c.args.names.now.record.now) (starts_of c.args.names.now.report.now) c.in-Err.ensures.calls
