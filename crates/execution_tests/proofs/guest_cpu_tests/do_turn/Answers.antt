use Rattle.std.proofs.Common.{subst, sym}
use Rattle.execution_tests.specs.Checkpoints.{GoesOn}
use Rattle.execution_tests.proofs.CheckpointLemmas.{goes_restored, goes_saved}
use Rattle.execution_tests.proofs.guest_cpu_tests.do_turn.Goals as goal

pub returns-in-Save-clause-goes : goal.returns-in-Save-clause-goes
returns-in-Save-clause-goes g c = subst GoesOn (sym c.save.ensures.saved) (goes_saved c.args.cpu.now.slots c.requires.goes)

pub returns-in-To-clause-goes : goal.returns-in-To-clause-goes
returns-in-To-clause-goes g c = (goes_restored c.args.cpu.now.slots c.restore.new.self.slots c.in-To.index c.restore.ensures.restored c.requires.goes).0

pub returns-in-To-clause-newer : goal.returns-in-To-clause-newer
returns-in-To-clause-newer g c = (goes_restored c.args.cpu.now.slots c.restore.new.self.slots c.in-To.index c.restore.ensures.restored c.requires.goes).1
