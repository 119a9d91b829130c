use Rattle.cow_pages.proofs.Lemmas.{renewed_few, renewed_room, renewed_some, walked}
use Rattle.cow_pages.proofs.Terms.{arith}
use Rattle.cow_pages.proofs.tables.renew_entry.Goals as goal

pub uncount_frame-removed-requires-clause-some : goal.uncount_frame-removed-requires-clause-some
uncount_frame-removed-requires-clause-some c = renewed_some _ c.requires.fits c.requires.inside

pub uncount_frame-removed-requires-clause-reserved : goal.uncount_frame-removed-requires-clause-reserved
uncount_frame-removed-requires-clause-reserved c = omega (arith, renewed_room _ c.requires.fits c.requires.inside, c.requires.reserved)

pub count_frame-added-requires-clause-few : goal.count_frame-added-requires-clause-few
count_frame-added-requires-clause-few c = renewed_few _ c.requires.fits c.requires.inside c.if-other-frame.false c.uncount_frame-removed.ensures.counts

pub returns-clause-renewed : goal.returns-clause-renewed
returns-clause-renewed c =
    let down = c.uncount_frame-removed.ensures in
    let up = c.count_frame-added.ensures in
    (walked c.requires.fits c.requires.inside c.if-other-frame.false down.counts down.free up.counts down.removed up.added).0

pub returns-clause-counts : goal.returns-clause-counts
returns-clause-counts c =
    let down = c.uncount_frame-removed.ensures in
    let up = c.count_frame-added.ensures in
    (walked c.requires.fits c.requires.inside c.if-other-frame.false down.counts down.free up.counts down.removed up.added).1
