use Rattle.msg_frame.proofs.Terms.{rules}
use Rattle.msg_frame.proofs.framing.Framing.skipped.Goals as goal

pub returns-in-Length : goal.returns-in-Length
returns-in-Length c = search rules
