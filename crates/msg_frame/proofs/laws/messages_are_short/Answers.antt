use Rattle.msg_frame.proofs.Short as lemmas
use Rattle.msg_frame.proofs.laws.messages_are_short.Goals as goal

pub returns : goal.returns
returns c = lemmas.messages_are_short
