use Rattle.recovery.proofs.Stands.{checkpoint_there}
use Rattle.recovery.proofs.Ending.{settled_tried, under_saved}
use Rattle.recovery.proofs.recoverable.Recoverable.attempt.Goals as goal

pub go_on-requires : goal.go_on-requires
go_on-requires g c =
    let w = c.requires.failed in
    let at = checkpoint_there c.args.self.now.cpu.slots.saved w.failure.ring w.failed.has.saved c.requires.within in
    record {
      tries = record {
        failure = w.failure;
        checkpoint = at.0;
        under = under_saved g.R.AccessRule.rule w.failure c.begin.ensures.saved w.under;
        trying = c.begin.ensures.begins c.args.limits.point c.args.self.now.log w.failure at.0 c.args.chance.env w.failed at.1;
      };
    }

pub returns-in-Ok-clause-tries : goal.returns-in-Ok-clause-tries
returns-in-Ok-clause-tries g c failure checkpoint under failed found =
    settled_tried c.settle.ensures
    (c.in-Ok.ensures.comes failure checkpoint (under_saved g.R.AccessRule.rule failure c.begin.ensures.saved under) (c.begin.ensures.begins c.args.limits.point c.args.self.now.log failure checkpoint c.args.chance.env failed found))
