use Rattle.session_following.proofs.Past.{failure_past, request_past}
use Rattle.session_following.proofs.judging.is_past.Goals as goal

pub returns-in-Request : goal.returns-in-Request
returns-in-Request c = request_past c.args.episodes.now c.last-item.result c.args.kind c.args.taken c.in-len1-up.len_at_least c.last-item.is c.in-Request.is

pub returns-in-Failure : goal.returns-in-Failure
returns-in-Failure c = failure_past c.args.episodes.now c.last-item.result c.args.kind c.args.taken c.in-len1-up.len_at_least c.last-item.is c.in-Failure.is
