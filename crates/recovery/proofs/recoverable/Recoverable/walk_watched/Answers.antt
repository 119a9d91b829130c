use Rattle.recovery.proofs.Terms.{ap, arith, discarded, table}
use Rattle.recovery.proofs.HeldLemmas.{can_still, still_failed, still_under}
use Rattle.recovery.proofs.WatchLemmas.{none_begun, walks_behind}
use Rattle.recovery.proofs.recoverable.Recoverable.walk_watched.Goals as goal

pub returns-in-Err-clause-walks : goal.returns-in-Err-clause-walks
returns-in-Err-clause-walks g c failure under failed = none_begun failure c.args.site.point (table failure.ring) (omega (arith, c.in-Err.ensures.counted))

pub walk-requires : goal.walk-requires
walk-requires g c = record { failed = can_still g.R.AccessRule.rule c.in_default.ensures.kept (ap discarded c.in_default.ensures.ledger) c.requires.failed }

pub returns-clause-walks : goal.returns-clause-walks
returns-clause-walks g c failure under failed =
    let looked = c.in_default.ensures in
    walks_behind failure c.args.site.point c.walk.new.self.cpu c.walk.new.own.items c.args.self.now.replies c.walk.new.self.replies (g.W.Watch.ran c.args.watch.now) (g.W.Watch.ran c.failed.new.self) c.args.steps.now c.failed.new.steps c.walk.new.steps c.walk.result looked.ledger
    looked.counted
    (c.walk.ensures.walks failure (still_under g.R.AccessRule.rule failure looked.kept under) (still_failed looked.kept (ap discarded looked.ledger) failed))
