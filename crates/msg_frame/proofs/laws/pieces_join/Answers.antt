use Rattle.msg_frame.proofs.Cutting as lemmas
use Rattle.msg_frame.proofs.laws.pieces_join.Goals as goal

pub returns : goal.returns
returns c = lemmas.pieces_join
