use Rattle.schedule_file.proofs.Refusing.{refused_too}
use Rattle.schedule_file.proofs.laws.refused_as_record.Goals as goal

pub returns : goal.returns
returns c = refused_too
