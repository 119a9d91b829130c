use Rattle.msg_frame.proofs.Terms.{arith, cut}
use Rattle.msg_frame.proofs.Lines.{line_missing, line_too_long, line_within, line_over}
use Rattle.msg_frame.proofs.ends.line_end.Goals as goal

pub returns-else-fits : goal.returns-else-fits
unfolding cut
returns-else-fits c = line_too_long c.args.rest.now c.args.bytes.now c.in-None.ensures.place c.requires (omega (arith, c.if-fits.ensures))

pub returns-then-fits : goal.returns-then-fits
unfolding cut
returns-then-fits c = line_missing c.args.rest.now c.args.bytes.now c.in-None.ensures.place (omega (arith, c.if-fits.ensures))

pub returns-else-fits-2 : goal.returns-else-fits-2
unfolding cut
returns-else-fits-2 c = line_over c.args.rest.now c.args.bytes.now c.in-Some.i c.in-Some.ensures.place c.requires (omega (arith, c.if-fits-2.ensures))

pub returns-then-fits-2 : goal.returns-then-fits-2
unfolding cut
returns-then-fits-2 c =
    (omega arith, omega (arith, c.in-Some.ensures.inside), omega arith, line_within c.args.rest.now c.args.bytes.now c.in-Some.i c.in-Some.ensures.place (omega (arith, c.if-fits-2.ensures)))
