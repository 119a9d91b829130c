-- How far a guest had come at a checkpoint.
use Rattle.guest_cpu.proofs.Terms.{IsSome, List, None, Option, Some, refl, subst, sym, ℕ, ◌≡◌, slice_get, Space, slot_at, checkpoint_at, saved_slot, IsLine, Line, checkpoints_in, Checkpoint, GuestPages, Core, Standing, marks_of, state_in}

-- where a slot is saved, what is saved has the marks of the core that is kept for it
core_in : (space : GuestPages) (saved : List Core) (slot : ℕ) (core : Core) → slice_get saved slot ≡ Some core → IsSome (slot_at space.store slot) → core.marks ≡ marks_of (state_in space saved slot)
core_in space saved slot core there some = of (slot_at space.store slot) refl some where
  of : (found : Option Space) → slot_at space.store slot ≡ found → IsSome found → core.marks ≡ marks_of (state_in space saved slot)
  of None is none = cc
  of (Some one) is some = rw (there, is) refl

-- so has the checkpoint at its place
pub marks_at : (space : GuestPages) (saved : List Core) (line : Line) (index slot : ℕ) (core : Core) → IsLine space.store line → slice_get line.order index ≡ Some slot → slice_get saved slot ≡ Some core
    → (P : Option (Checkpoint Standing) → Type 0) → ((one : Checkpoint Standing) → core.marks ≡ marks_of one.state → P (Some one)) → P (slice_get (checkpoints_in (state_in space saved) space.store line.order) index)
marks_at space saved line index slot core so is there P holds =
    let one = checkpoint_at (state_in space saved) space.store line.order index slot is in
    subst P (sym one.1) (holds (record { state = state_in space saved slot; pages = one.0 }) (core_in space saved slot core there (saved_slot space.store line index slot so is).1))
