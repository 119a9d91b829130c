use Rattle.msg_frame.proofs.Terms.{rules}
use Rattle.msg_frame.proofs.ends.announced.Goals as goal

pub returns : goal.returns
returns c = search rules
