use Rattle.schedule_file.proofs.Same.{in_pieces}
use Rattle.schedule_file.proofs.laws.written_in_pieces.Goals as goal

pub returns : goal.returns
returns c = in_pieces
