use Rattle.msg_frame.proofs.Terms.{rules}
use Rattle.msg_frame.proofs.framer.keep_left.Goals as goal

pub returns-then-is_empty-clause-kept : goal.returns-then-is_empty-clause-kept
returns-then-is_empty-clause-kept c = search rules

pub returns-in_err-rest-clause-same : goal.returns-in_err-rest-clause-same
returns-in_err-rest-clause-same c = search rules
