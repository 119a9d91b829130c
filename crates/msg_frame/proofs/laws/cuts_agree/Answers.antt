use Rattle.msg_frame.proofs.Cutting as lemmas
use Rattle.msg_frame.proofs.laws.cuts_agree.Goals as goal

pub returns : goal.returns
returns c = lemmas.cuts_agree
