use Rattle.rx_io.proofs.Places.{holds_each}
use Rattle.rx_io.proofs.memory_files.MemoryFilesFiles.add.Goals as goal

pub returns-in-Err-clause-none : goal.returns-in-Err-clause-none
returns-in-Err-clause-none c = holds_each _ _ c.args.name.now c.in-Err.ensures.same
