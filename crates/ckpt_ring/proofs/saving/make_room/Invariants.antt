use Rattle.ckpt_ring.proofs.Terms.{length, ◌≡◌, saved_in_ring}
use Rattle.ckpt_ring.proofs.saving.make_room.Given as goal

abbrev pub invariant-room : goal.invariant-room
invariant-room g l = record {
  newest : (g.T.Snapshot.slots l.t).newer ≡ 0;
  left : saved_in_ring (g.T.Snapshot.slots l.t) ≡ saved_in_ring (g.T.Snapshot.slots l.fn.t);
  fixed : g.T.Snapshot.fixed l.t ≡ g.T.Snapshot.fixed l.fn.t;
}

abbrev pub decreases-room : goal.decreases-room
decreases-room g l = length (g.T.Snapshot.slots l.t).saved
