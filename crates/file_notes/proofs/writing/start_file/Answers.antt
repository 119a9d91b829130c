use Rattle.file_notes.proofs.CallingLemmas.{starts_calls}
use Rattle.file_notes.proofs.writing.start_file.Goals as goal

pub returns-in-Ok-clause-calls : goal.returns-in-Ok-clause-calls
returns-in-Ok-clause-calls g c = starts_calls _ _ _ c.args.name.now c.add.result c.in-Ok.ensures.call c.add.ensures.call
