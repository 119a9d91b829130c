use Rattle.ckpt_ring.proofs.Terms.{arith, sym, ◌∙◌, all_numbers}
use Rattle.ckpt_ring.proofs.Rooms.{frames_from_room, saved_in_ring-full, saved_in_ring-room, sum-all_numbers}
use Rattle.ckpt_ring.proofs.saving.save.Goals as goal

pub returns-then-may_replace-clause-saved : goal.returns-then-may_replace-clause-saved
returns-then-may_replace-clause-saved g c =
    c.replace_oldest.ensures.saved
    ∙ sym (saved_in_ring-full (g.T.Snapshot.slots c.args.t.now) c.may_replace.ensures.sound c.requires.some (c.may_replace.ensures.full c.if-may_replace.true) (c.may_replace.ensures.room c.if-may_replace.true))

pub save_newest-requires-clause-room : goal.save_newest-requires-clause-room
save_newest-requires-clause-room g c =
    let slots = g.T.Snapshot.slots c.make_room.new.t in
    omega (arith, sum-all_numbers slots c.make_room.ensures.sound, frames_from_room slots.count slots.pages slots.frames (all_numbers slots) c.make_room.ensures.room)

pub returns-clause-saved : goal.returns-clause-saved
returns-clause-saved g c =
    let slots = g.T.Snapshot.slots c.make_room.new.t in
    c.save_newest.ensures.saved ∙ (sym (saved_in_ring-room slots c.make_room.ensures.sound c.make_room.ensures.room) ∙ c.make_room.ensures.left)
