use Rattle.guest_cpu.proofs.StartLemmas.{heap_above_null, heap_ordered}
use Rattle.guest_cpu.proofs.guest_core.Core.at_start.Goals as goal

pub make-requires-clause-above_null : goal.make-requires-clause-above_null
make-requires-clause-above_null c = rw c.heap_start.ensures (heap_above_null c.args.image.now)

pub make-requires-clause-ordered : goal.make-requires-clause-ordered
make-requires-clause-ordered c = rw (c.heap_start.ensures, c.heap_end.ensures) (heap_ordered c.args.image.now)
