use Rattle.guest_space.proofs.Terms.{ℕ, ◌<◌, ◌≡◌, ◌≤◌, slice_index, followed}
use Rattle.guest_space.proofs.window.follow_places.Given as goal

abbrev pub invariant-places : goal.invariant-places
invariant-places l =
    ((k : ℕ) → k < l.place-index → slice_index l.places k ≡ followed l.from l.to (slice_index l.fn.places k))
    × ((k : ℕ) → l.place-index ≤ k → slice_index l.places k ≡ slice_index l.fn.places k)
