use Rattle.recovery.proofs.Terms.{Bool, ap, arith, length, subst, sym, ◌∙◌, Slots, Marks, Standing, taken_in, KeepsRing, ring_if, keeping_by, stands_of}
use Rattle.recovery.proofs.Stands.{none_set, some_saved}
use Rattle.recovery.proofs.RingLemmas.{ring_saves}
use Rattle.recovery.proofs.Handled.{far_handles, far_when, near_handles, near_saved, near_when}
use Rattle.recovery.proofs.recoverable.Recoverable.save.Goals as goal

pub returns-clause-keeps : goal.returns-clause-keeps
returns-clause-keeps g c rules image entries plan now paths can often =
    let old = c.args.self.now in
    let saves = c.save.ensures.saved in
    let some = some_saved old.cpu.slots saves (omega (arith, c.sound.ensures.ring.few, c.requires.stands.some)) c.save.ensures.sound.frames in
    subst (λ (b : Bool). KeepsRing rules image entries plan now (ring_if b (length c.save.new.t.slots.saved) now paths) c.save.new.t old.log old.replies)
    (sym (far_when c.args.every (taken_in old.cpu.slots.live) c.taken_at.result old.cpu.slots.saved c.taken_at.ensures.taken (omega (arith, ap (λ (m : Marks). m.taken) c.marks-taken.ensures))))
    (ring_saves old.cpu can (omega (arith, ap (λ (m : Marks). m.taken) c.marks-taken.ensures, often)) saves some (ap (λ p. p.1) c.save.ensures.fixed)
    (none_set c.save.new.t.written c.save.new.t.slots.pages (c.sound-2.ensures.written ∙ ap (λ (slots : Slots Standing). slots.written) saves) c.sound-2.ensures.pages))

pub returns-then-saturating_sub-from-clause-keeps : goal.returns-then-saturating_sub-from-clause-keeps
returns-then-saturating_sub-from-clause-keeps g c rules image entries plan now paths can often =
    let old = c.args.self.now in
    let near = near_when c.args.every (taken_in old.cpu.slots.live) c.taken_at.result old.cpu.slots.saved c.taken_at.ensures.taken (omega (arith, ap (λ (m : Marks). m.taken) c.marks-taken.ensures)) in
    subst (λ (b : Bool). KeepsRing rules image entries plan now (ring_if b (length old.cpu.slots.saved) now paths) old.cpu old.log old.replies) (sym near) can.ring

pub returns-then-saturating_sub-from-clause-handles : goal.returns-then-saturating_sub-from-clause-handles
returns-then-saturating_sub-from-clause-handles g c =
    let old = c.args.self.now.cpu.slots in
    near_handles (keeping_by c.args.every old) (taken_in old.live) old.written (stands_of old.saved)
    (near_when c.args.every (taken_in old.live) c.taken_at.result old.saved c.taken_at.ensures.taken (omega (arith, ap (λ (m : Marks). m.taken) c.marks-taken.ensures)))

pub returns-clause-handles : goal.returns-clause-handles
returns-clause-handles g c =
    let live = c.args.self.now.cpu.slots.live in
    far_handles c.args.self.now.cpu.slots c.args.every (far_when c.args.every (taken_in live) c.taken_at.result c.args.self.now.cpu.slots.saved c.taken_at.ensures.taken (omega (arith, ap (λ (m : Marks). m.taken) c.marks-taken.ensures))) c.save.ensures.saved

pub returns-clause-none_due : goal.returns-clause-none_due
returns-clause-none_due g c often =
    near_saved c.args.self.now.cpu.slots c.args.every c.save.ensures.saved
    (some_saved c.args.self.now.cpu.slots c.save.ensures.saved (omega (arith, c.sound.ensures.ring.few, c.requires.stands.some)) c.save.ensures.sound.frames) often

pub returns-clause-stands : goal.returns-clause-stands
returns-clause-stands g c = record {
  some = some_saved c.args.self.now.cpu.slots c.save.ensures.saved (omega (arith, c.sound.ensures.ring.few, c.requires.stands.some)) c.save.ensures.sound.frames;
  newest = ap (λ (slots : Slots Standing). slots.newer) c.save.ensures.saved;
}
