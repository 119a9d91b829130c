use Rattle.msg_frame.proofs.Cutting as lemmas
use Rattle.msg_frame.proofs.laws.bytes_decide.Goals as goal

pub returns : goal.returns
returns c = lemmas.bytes_decide
