use Rattle.msg_frame.proofs.Terms.{arith, length-append, cut}
use Rattle.msg_frame.proofs.Lengths.{length_missing, length_refused, length_within}
use Rattle.msg_frame.proofs.ends.length_end.Goals as goal

pub returns-then-len-lt-NUMBER_BYTES : goal.returns-then-len-lt-NUMBER_BYTES
unfolding cut
returns-then-len-lt-NUMBER_BYTES c =
    let all = length-append c.args.rest.now c.args.bytes.now in
    length_missing c.args.rest.now c.args.bytes.now (λ number. absurd (omega arith))

pub returns-then-not-fits : goal.returns-then-not-fits
unfolding cut
returns-then-not-fits c = length_refused c.args.rest.now c.args.bytes.now c.requires (omega arith) (omega (arith, c.announced-size.ensures, c.if-not-fits.ensures))

pub returns-then-len-size : goal.returns-then-len-size
unfolding cut
returns-then-len-size c =
    let all = length-append c.args.rest.now c.args.bytes.now in
    length_missing c.args.rest.now c.args.bytes.now (λ number. (omega (arith, c.announced-size.ensures, c.if-not-fits.ensures), omega (arith, c.announced-size.ensures)))

pub returns : goal.returns
unfolding cut
returns c = length_within c.args.rest.now c.args.bytes.now _ c.requires (omega (arith, c.announced-size.ensures, c.if-not-fits.ensures)) (omega (arith, c.announced-size.ensures)) (omega (arith, c.announced-size.ensures))
