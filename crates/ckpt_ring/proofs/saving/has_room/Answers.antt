use Rattle.ckpt_ring.proofs.Terms.{arith, length, ◌+◌, ◌∙◌, ◌≤◌, sum, all_numbers, page_numbers}
use Rattle.ckpt_ring.proofs.Rooms.{has_room_by_used, sum-all_numbers, length-page_numbers}
use Rattle.ckpt_ring.proofs.saving.has_room.Goals as goal

pub returns-then-checkpoints-most_checkpoints-clause-room : goal.returns-then-checkpoints-most_checkpoints-clause-room
returns-then-checkpoints-most_checkpoints-clause-room g c =
    let slots = g.T.Snapshot.slots c.args.t.now in
    let few : length (page_numbers slots.saved) + 1 ≤ slots.count = omega (arith, c.checkpoints.ensures.checkpoints, c.most_checkpoints.ensures.most, c.if-checkpoints-most_checkpoints.true, length-page_numbers slots.saved) in
    let within : length (all_numbers slots) ≤ slots.count = omega (arith, few) in
    c.has_frames-fits.ensures.room
    ∙ has_room_by_used slots.count slots.pages slots.frames (sum (all_numbers slots)) (all_numbers slots) (sum-all_numbers slots c.has_frames-fits.ensures.sound) within
