use Rattle.recovery.proofs.Survived.{of_walked}
use Rattle.recovery.proofs.recoverable.Recoverable.walk.Goals as goal

pub returns-in-Ok-clause-one_run : goal.returns-in-Ok-clause-one_run
returns-in-Ok-clause-one_run g c failure under failed = of_walked failed (c.in-Ok.ensures.walks failure under failed)
