use Rattle.ckpt_ring.proofs.Terms.{◌≡◌, AreSound, without_newer}
use Rattle.ckpt_ring.proofs.saving.drop_newer.Given as goal

abbrev pub invariant-loop : goal.invariant-loop
invariant-loop g l = record {
  saved : g.T.Snapshot.slots l.t ≡ without_newer l.counter (g.T.Snapshot.slots l.fn.t);
  written : g.T.Snapshot.written l.t ≡ g.T.Snapshot.written l.fn.t;
  fixed : g.T.Snapshot.fixed l.t ≡ g.T.Snapshot.fixed l.fn.t;
  sound : AreSound (g.T.Snapshot.slots l.t);
}
