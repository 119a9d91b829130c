-- One guest with its checkpoints, when it is saved, comes back or gives one up.
use Rattle.circular_buffer.proofs.Places.{slice_get-set_same, slice_get-set_other}
use Rattle.ckpt_ring.proofs.Saves.{line_saves}
use Rattle.ckpt_ring.proofs.Restores.{line_restores}
use Rattle.ckpt_ring.proofs.Drops.{line_drops_oldest, line_drops_newest}
use Rattle.guest_cpu.proofs.Terms.{IfSome, IsSome, IsSomeAnd, List, None, Option, Some, ap, arith, drop, get_or, length, refl, set, subst, sym, ℕ, ◌+◌, ◌-◌, ◌<◌, ◌∙◌, ◌∷◌, ◌≡◌, ◌≢◌, ◌≤◌, length-set, set-set, All-set, slice_get_read, slice_get, slice_set, take, SameEnds, Space, slot_at, used_of, all_at, length-checkpoints_in, other_slot, saved_slot, this_slot, line_sound, line_used, IsLine, Line, checkpoints_in, line_of, slots_of, written_pages, AreSound, Slots, oldest_of, restored, used_pages, with_newest, without_newer, without_oldest, Releases, Saves, SavesOver, GuestPages, IsLawfulSpace, flat, Core, AreCounted, Standing, standing, IsCpu, state_in}
use Rattle.guest_cpu.proofs.CpuLemmas.{same_ends}

-- what a ring of checkpoints sees of a guest
abbrev pub slots_in : Core → GuestPages → List Core → Line → Slots Standing
slots_in core space saved line = slots_of (state_in space saved) (standing core (flat space)) space.store line

pub cpu_sound : (core : Core) (space : GuestPages) (saved : List Core) (line : Line) → IsCpu core space saved line → AreSound (slots_in core space saved line)
cpu_sound core space saved line fits = line_sound (state_in space saved) (standing core (flat space)) space.store line fits.line_is

-- the line has no more slots than the store
pub order_few : (core : Core) (space : GuestPages) (saved : List Core) (line : Line) → IsCpu core space saved line → length line.order ≤ length space.store.slots
order_few core space saved line fits = omega (arith, (cpu_sound core space saved line fits).few, length-checkpoints_in (state_in space saved) space.store line.order)

-- where more checkpoints can stand, a slot that is no higher than their number is one of the store's
pub free_near : (space : GuestPages) (saved : List Core) (line : Line) (slot : ℕ) → length (checkpoints_in (state_in space saved) space.store line.order) < length space.store.slots → slot ≤ length line.order → slot < length space.store.slots
free_near space saved line slot few low = omega (arith, few, low, length-checkpoints_in (state_in space saved) space.store line.order)

-- the store has the frames that a ring of checkpoints sees
pub has_frames : (core : Core) (space : GuestPages) (saved : List Core) (line : Line) → IsLawfulSpace space → IsCpu core space saved line → used_pages (slots_in core space saved line) + space.store.pages ≤ space.store.frames
    → used_of space.store + space.store.pages ≤ space.store.frames
has_frames core space saved line lawful fits room = omega (arith, room, line_used (state_in space saved) (standing core (flat space)) space.store line lawful.store fits.line_is)

-- a core that is kept for a slot has the ends of the guest's heap
pub ends_at : (core : Core) (space : GuestPages) (saved : List Core) (line : Line) (slot : ℕ) (other : Core) → IsCpu core space saved line → slot < length space.store.slots → other ≡ get_or saved slot other
    → (core.book.start ≡ other.book.start) × (core.book.end ≡ other.book.end)
ends_at core space saved line slot other fits less is =
    let near : slot < length saved = omega (arith, less, fits.each_slot) in
    let same = (all_at (λ (one : Core). SameEnds core.book one.book × AreCounted one.marks) saved slot other fits.same (slice_get_read saved (length saved) slot other refl near is)).0 in
    (sym same.0, sym same.1)

-- the parts of a guest fit together, and these are its slots
abbrev pub HasSlots : Core → GuestPages → List Core → Line → Slots Standing → Type 0
HasSlots core space saved line slots = IsCpu core space saved line × (slots_in core space saved line ≡ slots)

-- the store of a memory with something else in a slot
abbrev pub with_slot_of : GuestPages → ℕ → Option Space → GuestPages
with_slot_of space slot o = record space { store = record space.store { slots = slice_set space.store.slots slot o } }

module _ (core : Core) (old : GuestPages) (saved : List Core) (line : Line) (slot : ℕ) (fits : IsCpu core old saved line) where
  saved_as : line.newer ≡ 0 → slot < length old.store.slots → slot_at old.store slot ≡ None
      → HasSlots core (with_slot_of old slot (Some old.store.live)) (set saved slot core) (line_of (slot ∷ line.order) 0) (with_newest (slots_in core old saved line))
  saved_as newest less empty =
      let new : GuestPages = with_slot_of old slot (Some old.store.live) in
      let near : slot < length saved = omega (arith, less, fits.each_slot) in
      let this : state_in new (set saved slot core) slot ≡ standing core (flat old) = rw (slice_get-set_same saved slot core near, this_slot old.store slot (Some old.store.live) less) refl in
      let others : (other : ℕ) → other ≢ slot → state_in new (set saved slot core) other ≡ state_in old saved other =
      λ other apart. rw (slice_get-set_other saved slot other core apart, other_slot old.store slot other (Some old.store.live) apart) refl in
      let kept = line_saves old.store line slot fits.line_is newest less empty (state_in old saved) (state_in new (set saved slot core)) (standing core (flat old)) this others in (
        record {
          line_is = kept.0;
          heap = fits.heap;
          counts = fits.counts;
          each_slot = omega (arith, fits.each_slot, length-set saved slot core, length-set old.store.slots slot (Some old.store.live));
          same = All-set (λ (other : Core). SameEnds core.book other.book × AreCounted other.marks) saved slot core ((refl, refl), fits.counts) fits.same;
          few = omega (arith, fits.few, length-set old.store.slots slot (Some old.store.live));
        },
        kept.1,
      )

  -- the guest is saved in a slot
  pub cpu_saves : (new : GuestPages) (after : List Core) (end : Line) → line.newer ≡ 0 → slot < length old.store.slots → slot_at old.store slot ≡ None → Saves old slot new → after ≡ set saved slot core → end ≡ line_of (slot ∷ line.order) 0
      → HasSlots core new after end (with_newest (slots_in core old saved line))
  cpu_saves new after end newest less empty saves after_is end_is = rw (saves.store_is, after_is, end_is) (saved_as newest less empty)

  -- a slot is given up, and the line of the others fits
  given_up : (rest : Line) → IsLine (with_slot_of old slot None).store rest → IsCpu core (with_slot_of old slot None) saved rest
  given_up rest is = record {
    line_is = is;
    heap = fits.heap;
    counts = fits.counts;
    each_slot = omega (arith, fits.each_slot, length-set old.store.slots slot None);
    same = fits.same;
    few = omega (arith, fits.few, length-set old.store.slots slot None);
  }

  -- what is saved in the other slots stays
  others_stay : (other : ℕ) → other ≢ slot → state_in (with_slot_of old slot None) saved other ≡ state_in old saved other
  others_stay other apart = rw (other_slot old.store slot other None apart) refl

  dropped_as : line.newer ≡ 0 → oldest_of line.order ≡ Some slot
      → HasSlots core (with_slot_of old slot None) saved (line_of (take (length line.order - 1) line.order) line.newer) (without_oldest (slots_in core old saved line))
  dropped_as newest is =
      let dropped = line_drops_oldest (state_in old saved) (state_in (with_slot_of old slot None) saved) (standing core (flat old)) old.store line slot others_stay fits.line_is newest is in
      (given_up (line_of (take (length line.order - 1) line.order) line.newer) dropped.0, dropped.1)

  -- the oldest slot is given up
  pub cpu_drops_oldest : (new : GuestPages) (end : Line) → line.newer ≡ 0 → oldest_of line.order ≡ Some slot → Releases old slot new → end ≡ line_of (take (length line.order - 1) line.order) line.newer
      → HasSlots core new saved end (without_oldest (slots_in core old saved line))
  cpu_drops_oldest new end newest is after end_is = rw (after.store_is, end_is) (dropped_as newest is)

  -- the newest slot is given up, and no flag changes
  pub cpu_drops_newest : (new : GuestPages) (end : Line) → 0 < line.newer → slice_get line.order 0 ≡ Some slot → Releases old slot new → end ≡ line_of (drop 1 line.order) (line.newer - 1)
      → HasSlots core new saved end (without_newer 1 (slots_in core old saved line)) × (written_pages new.store end ≡ written_pages old.store line)
  cpu_drops_newest new end some is after end_is =
      let dropped = line_drops_newest (state_in old saved) (state_in (with_slot_of old slot None) saved) (standing core (flat old)) old.store line slot others_stay fits.line_is some is in
      rw (after.store_is, end_is) ((given_up (line_of (drop 1 line.order) (line.newer - 1)) dropped.0, dropped.1), dropped.2)

-- the guest is saved over the oldest slot
pub cpu_saves_over : (core : Core) (old : GuestPages) (saved : List Core) (line : Line) (slot : ℕ) (fits : IsCpu core old saved line) (new : GuestPages) (after : List Core) (end : Line) → line.newer ≡ 0 → oldest_of line.order ≡ Some slot
    → SavesOver old slot new → after ≡ set saved slot core → end ≡ line_of (slot ∷ take (length line.order - 1) line.order) 0
    → HasSlots core new after end (with_newest (without_oldest (slots_in core old saved line)))
cpu_saves_over core old saved line slot fits new after end newest is saves after_is end_is =
    let mid : GuestPages = with_slot_of old slot None in
    let less = (saved_slot old.store line (length line.order - 1) slot fits.line_is is).0 in
    let near : slot < length mid.store.slots = omega (arith, less, length-set old.store.slots slot None) in
    let dropped = dropped_as core old saved line slot fits newest is in
    let kept = saved_as core mid saved (line_of (take (length line.order - 1) line.order) line.newer) slot dropped.0 newest near (this_slot old.store slot None less) in
    let same : new ≡ with_slot_of mid slot (Some mid.store.live) =
    saves.store_is ∙ sym (ap (λ slots. record old { store = record old.store { slots = slots } }) (set-set old.store.slots slot None (Some old.store.live))) in
    rw (same, after_is, end_is) (kept.0, kept.1 ∙ ap with_newest dropped.1)

-- the guest comes back from a slot
pub cpu_restores : (core there : Core) (old new : GuestPages) (saved : List Core) (line end : Line) (index slot : ℕ) → IsCpu core old saved line → slice_get line.order index ≡ Some slot
    → IfSome (slot_at old.store slot) (λ space. new ≡ record old { store = record old.store { live = space } }) → slice_get saved slot ≡ Some there → end ≡ line_of line.order index
    → IsCpu there new saved end × IsSomeAnd (slice_get (slots_in core old saved line).saved index) (λ one. slots_in there new saved end ≡ restored index one (slots_in core old saved line))
cpu_restores core there old new saved line end index slot fits is after there_is end_is = by (slot_at old.store slot) refl (saved_slot old.store line index slot fits.line_is is).1 after where
  by : (o : Option Space) → slot_at old.store slot ≡ o → IsSome o → IfSome o (λ space. new ≡ record old { store = record old.store { live = space } })
      → IsCpu there new saved end × IsSomeAnd (slice_get (slots_in core old saved line).saved index) (λ one. slots_in there new saved end ≡ restored index one (slots_in core old saved line))
  by None found some same = cc
  by (Some space) found some same =
      let back = line_restores (state_in old saved) (standing core (flat old)) old.store line index slot space fits.line_is is found in
      let live : state_in old saved slot ≡ standing there (flat (record old { store = record old.store { live = space } })) = rw (there_is, found) refl in
      let facts = all_at (λ (other : Core). SameEnds core.book other.book × AreCounted other.marks) saved slot there fits.same there_is in
      rw (same, end_is) (
        record {
          line_is = back.0;
          heap = rw (facts.0.0, facts.0.1) fits.heap;
          counts = facts.1;
          each_slot = fits.each_slot;
          same = same_ends core there saved facts.0 fits.same;
          few = fits.few;
        },
        subst (λ state. IsSomeAnd (slice_get (slots_in core old saved line).saved index) (λ one. slots_of (state_in old saved) state (record old.store { live = space }) (line_of line.order index) ≡ restored index one (slots_in core old saved line)))
            live back.1,
      )
