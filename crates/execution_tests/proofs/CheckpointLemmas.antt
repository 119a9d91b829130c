-- A guest goes on, is saved and restored.
use Rattle.std.proofs.Common.{List, None, Option, Some, [], refl, subst, sym, ℕ, ◌∷◌, ◌≡◌}
use Rattle.std.specs.Prelude.{All, IsSomeAnd, slice_get}
use Rattle.std.proofs.lemmas.List.Elements.{All-cons, All-drop, All-head, All-nil, All-tail, All-take}
use Rattle.ckpt_ring.specs.Rings.{room_for, saved_in_ring}
use Rattle.ckpt_ring.specs.Slots.{Checkpoint, Slots, all_numbers, restored, with_whole_oldest, without_newer}
use Rattle.ckpt_ring.proofs.Same.{all_at}
use Rattle.guest_cpu.specs.Standing.{Standing}
use Rattle.execution_tests.specs.Checkpoints.{GoesOn}

-- it hasn't ended itself
abbrev goes_on : Checkpoint Standing → Type 0
goes_on one = one.state.ended ≡ None

whole_go : (pages : ℕ) (list : List (Checkpoint Standing)) → All goes_on list → All goes_on (with_whole_oldest pages list)
whole_go pages [] all = all
whole_go pages (one ∷ []) all = All-cons goes_on (record one { pages = pages }) [] (All-head goes_on one [] all) (All-nil goes_on)
whole_go pages (one ∷ next ∷ older) all =
    All-cons goes_on one (with_whole_oldest pages (next ∷ older)) (All-head goes_on one (next ∷ older) all) (whole_go pages (next ∷ older) (All-tail goes_on one (next ∷ older) all))

pub goes_saved : (slots : Slots Standing) → GoesOn slots → GoesOn (saved_in_ring slots)
goes_saved slots goes =
    let newest : Checkpoint Standing = record { state = slots.live; pages = slots.written } in
    record {
      lives = goes.lives;
      each_lives = whole_go slots.pages _ (All-take goes_on (room_for slots.count slots.pages slots.frames (all_numbers slots)) (newest ∷ slots.saved) (All-cons goes_on newest slots.saved goes.lives goes.each_lives));
      some = goes.some;
    }

pub goes_restored : (slots new : Slots Standing) (index : ℕ) → IsSomeAnd (slice_get slots.saved index) (λ one. new ≡ restored index one slots) → GoesOn slots → GoesOn new × (new.newer ≡ index)
goes_restored slots new index = by (slice_get slots.saved index) refl where
  by : (found : Option (Checkpoint Standing)) → slice_get slots.saved index ≡ found → IsSomeAnd found (λ one. new ≡ restored index one slots) → GoesOn slots → GoesOn new × (new.newer ≡ index)
  by None none is goes = absurd is
  by (Some one) found is goes =
      subst (λ (s : Slots Standing). GoesOn s × (s.newer ≡ index)) (sym is) (record { lives = all_at goes_on slots.saved index one goes.each_lives found; each_lives = goes.each_lives; some = goes.some }, refl)

pub goes_dropped : (slots : Slots Standing) (count : ℕ) → GoesOn slots → GoesOn (without_newer count slots)
goes_dropped slots count goes = record { lives = goes.lives; each_lives = All-drop goes_on count slots.saved goes.each_lives; some = goes.some }
