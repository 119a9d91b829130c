use Rattle.ckpt_ring.proofs.Terms.{ap, arith, length, sym, ◌<◌, ◌∙◌, saved_in_ring, Slots}
use Rattle.ckpt_ring.proofs.Rooms.{saved_in_ring-without_oldest, some-left, without_oldest-few, without_oldest-keeps}
use Rattle.ckpt_ring.proofs.saving.make_room.Given as given
use Rattle.ckpt_ring.proofs.saving.make_room.Goals as goal
use Rattle.ckpt_ring.proofs.saving.make_room.Goals.{After-drop_oldest-arg-1, After-drop_oldest}

pub drop_oldest-requires-clause-some : goal.drop_oldest-requires-clause-some
drop_oldest-requires-clause-some g c =
    let slots = g.T.Snapshot.slots c.room.t in
    some-left slots c.has_room.ensures.sound (let same = ap (λ (s : Slots _). s.count) c.room.invariant.left in omega (arith, same, c.requires.some)) (sym c.has_room.ensures.room ∙ c.room-test.true)

some : (g : given.Over) (c : After-drop_oldest g) → 0 < length (g.T.Snapshot.slots c.room.t).saved
some g c = some-left (g.T.Snapshot.slots c.room.t) c.has_room.ensures.sound (let same = ap (λ (s : Slots _). s.count) c.room.invariant.left in omega (arith, same, c.requires.some)) (sym c.has_room.ensures.room ∙ c.room-test.true)

pub room-smaller : goal.room-smaller
room-smaller g c =
    let fewer = ap (λ (s : Slots _). length s.saved) c.drop_oldest.ensures.saved in
    omega (arith, fewer, without_oldest-few (g.T.Snapshot.slots c.room.t) (some g c))

pub room-preserved : goal.room-preserved
room-preserved g c =
    let slots = g.T.Snapshot.slots c.room.t in record {
      newest = ap (λ (s : Slots _). s.newer) c.drop_oldest.ensures.saved ∙ ((without_oldest-keeps slots).0 ∙ c.room.invariant.newest);
      left = ap saved_in_ring c.drop_oldest.ensures.saved ∙ (saved_in_ring-without_oldest slots (sym c.has_room.ensures.room ∙ c.room-test.true) (some g c) ∙ c.room.invariant.left);
      fixed = c.drop_oldest.ensures.fixed ∙ c.room.invariant.fixed;
    }
