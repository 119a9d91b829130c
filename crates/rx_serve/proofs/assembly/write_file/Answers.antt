use Rattle.rx_serve.proofs.Lemmas.{write_fails}
use Rattle.rx_serve.proofs.assembly.write_file.Goals as goal

pub returns-in-Err-Failed-add-clause-calls : goal.returns-in-Err-Failed-add-clause-calls
returns-in-Err-Failed-add-clause-calls g c = write_fails c.args.name.now _ _ _ c.in-Ok.ensures.call (rw c.in-Err-Failed-add.field-0-is at c.in-Err-Failed-add.ensures.call)
