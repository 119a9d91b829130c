use Rattle.std.proofs.lemmas.Grind.{common_steps}
use Rattle.msg_frame.proofs.Terms.{arith}
use Rattle.msg_frame.proofs.Parting.{drop-append}
use Rattle.msg_frame.proofs.build.joined.Goals as goal

pub returns : goal.returns
returns c = grind (arith, common_steps, drop-append c.args.skipped c.args.rest.now c.args.front.now)
