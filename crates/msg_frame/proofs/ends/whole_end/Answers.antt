use Rattle.msg_frame.proofs.Terms.{arith}
use Rattle.msg_frame.proofs.Parting.{whole_missing, whole_within, whole_refused}
use Rattle.msg_frame.proofs.ends.whole_end.Goals as goal

pub returns-then-is_empty : goal.returns-then-is_empty
returns-then-is_empty c = whole_missing c.args.rest.now c.args.bytes.now c.requires (grind arith)

pub returns-then-fits : goal.returns-then-fits
returns-then-fits c = (grind arith, omega arith, omega arith, whole_within c.args.rest.now c.args.bytes.now c.requires (grind arith) c.if-fits.ensures)

pub returns-else-fits : goal.returns-else-fits
returns-else-fits c = whole_refused c.args.rest.now c.args.bytes.now c.if-fits.ensures
