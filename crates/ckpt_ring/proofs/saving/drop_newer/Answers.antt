use Rattle.ckpt_ring.proofs.Terms.{ap, rules, ◌∙◌, without_newer}
use Rattle.ckpt_ring.proofs.Rooms.{without_newer-more}
use Rattle.ckpt_ring.proofs.saving.drop_newer.Goals as goal

pub loop-preserved : goal.loop-preserved
loop-preserved g c = record {
  saved = c.drop_newest.ensures.saved ∙ (ap (without_newer 1) c.loop.invariant.saved ∙ without_newer-more c.loop.counter (g.T.Snapshot.slots c.args.t.now));
  written = search rules;
  fixed = search rules;
  sound = c.drop_newest.ensures.sound;
}
