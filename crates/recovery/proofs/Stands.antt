-- What stands after a save, and the checkpoints of a guest as runs.
use Rattle.recovery.proofs.Terms.{Bool, List, None, Option, Some, [], ap, arith, cond, false, length, refl, subst, suc, sym, take, true, zero, ℕ, ◌&&◌, ◌*◌, ◌+◌, ◌<◌, ◌∙◌, ◌∷◌, ◌≡◌, ◌≤◌, cond_both, le-leb, length-map, length-take, take-map, slice_get-map, map-map, IsSomeAnd, map, option_map, replicate, slice_get, count_true, has_room, largest, room_for, saved_in_ring, Checkpoint, Slots, page_numbers, with_whole_oldest, map_some, Path, standing_of, Standing, taken_in, Stand, keeping_by, stand_of, stands_of, with_another}

-- of what is there
pub some_of : {X : Type 0} {P : X → Type 0} (o : Option X) → IsSomeAnd o P → (x : X) × (o ≡ Some x) × P x
some_of None is = absurd is
some_of (Some x) is = (x, refl, is)

-- there is one at an index below the length
pub found_at : {X : Type 0} (xs : List X) (index : ℕ) → index < length xs → (x : X) × (slice_get xs index ≡ Some x)
found_at [] index less = absurd (omega (arith, less))
found_at (x ∷ xs) zero less = (x, refl)
found_at (x ∷ xs) (suc index) less = found_at xs index (omega (arith, less))

-- flags of which none is set
pub none_set : (flags : List Bool) (count : ℕ) → count_true flags ≡ 0 → length flags ≡ count → flags ≡ replicate count false
none_set [] zero none long = refl
none_set (true ∷ flags) (suc count) none long = absurd (omega (arith, none))
none_set (false ∷ flags) (suc count) none long = ap (λ (rest : List Bool). false ∷ rest) (none_set flags count (omega (arith, none)) (omega (arith, long)))
none_set _ _ none long = absurd (omega (arith, long))

module _ {X : Type 0} where
  take_again : (count : ℕ) (xs : List X) → take count xs ≡ take (length (take count xs)) xs
  take_again zero xs = refl
  take_again (suc count) [] = refl
  take_again (suc count) (x ∷ xs) = ap (λ rest. x ∷ rest) (take_again count xs)

  whole_states : (pages : ℕ) (list : List (Checkpoint X)) → map (λ (one : Checkpoint X). one.state) (with_whole_oldest pages list) ≡ map (λ (one : Checkpoint X). one.state) list
  whole_states pages [] = refl
  whole_states pages (one ∷ []) = refl
  whole_states pages (one ∷ (next ∷ older)) = ap (λ (states : List X). one.state ∷ states) (whole_states pages (next ∷ older))

  whole_length : (pages : ℕ) (list : List (Checkpoint X)) → length (with_whole_oldest pages list) ≡ length list
  whole_length pages list =
      sym (length-map (with_whole_oldest pages list) (λ (one : Checkpoint X). one.state)) ∙ (ap length (whole_states pages list) ∙ length-map list (λ (one : Checkpoint X). one.state))

  -- what a save leaves, by the states alone
  pub saved_states : (slots : Slots X) {new : Slots X} → new ≡ saved_in_ring slots → map (λ (one : Checkpoint X). one.state) new.saved ≡ take (length new.saved) (slots.live ∷ map (λ (one : Checkpoint X). one.state) slots.saved)
  saved_states slots {new = new} saves =
      let count : ℕ = room_for slots.count slots.pages slots.frames (slots.written ∷ page_numbers slots.saved) in
      let all : List (Checkpoint X) = record { state = slots.live; pages = slots.written } ∷ slots.saved in
      let states : map (λ (one : Checkpoint X). one.state) new.saved ≡ take count (slots.live ∷ map (λ (one : Checkpoint X). one.state) slots.saved) =
      ap (λ (s : Slots X). map (λ (one : Checkpoint X). one.state) s.saved) saves ∙ (whole_states slots.pages (take count all) ∙ sym (take-map (λ (one : Checkpoint X). one.state) count all)) in
      let many : length new.saved ≡ length (take count (slots.live ∷ map (λ (one : Checkpoint X). one.state) slots.saved)) = sym (length-map new.saved (λ (one : Checkpoint X). one.state)) ∙ ap length states in
      states
      ∙ (take_again count (slots.live ∷ map (λ (one : Checkpoint X). one.state) slots.saved) ∙ ap (λ n. take n (slots.live ∷ map (λ (one : Checkpoint X). one.state) slots.saved)) (sym many))

-- one checkpoint has room, where one can stand and two states can be in use
largest_some : (test : ℕ → Bool) (most : ℕ) → test 1 ≡ true → 0 < largest test (suc most)
largest_some test zero holds = subst (λ (b : Bool). 0 < cond b 1 0) (sym holds) (omega arith)
largest_some test (suc most) holds = cond_both (test (suc (suc most))) (suc (suc most)) (largest test (suc most)) (λ n. 0 < n) (λ _. omega arith) (λ _. largest_some test most holds)

pub room_some : (count pages frames written : ℕ) (numbers : List ℕ) → 1 ≤ count → 2 * pages ≤ frames → 0 < room_for count pages frames (written ∷ numbers)
room_some count pages frames written numbers some two =
    largest_some (λ number. has_room count pages frames (take number (written ∷ numbers))) (length numbers)
    ((λ i. (le-leb 1 count some) i && (le-leb (pages + 0 + pages) frames (omega (arith, two))) i))

-- so one stands after a save
pub whole_some : {X : Type 0} (pages : ℕ) (newest : Checkpoint X) (older : List (Checkpoint X)) {count : ℕ} → 0 < count → 0 < length (with_whole_oldest pages (take count (newest ∷ older)))
whole_some pages newest older {count = count} some = omega (arith, whole_length pages (take count (newest ∷ older)), length-take count (newest ∷ older), some)

pub some_saved : {X : Type 0} (slots : Slots X) {new : Slots X} → new ≡ saved_in_ring slots → 1 ≤ slots.count → 2 * new.pages ≤ new.frames → 0 < length new.saved
some_saved {X = X} slots saves some two =
    subst (λ (s : Slots X). 2 * s.pages ≤ s.frames → 0 < length s.saved) (sym saves)
    (λ two. whole_some slots.pages (record { state = slots.live; pages = slots.written }) slots.saved (room_some slots.count slots.pages slots.frames slots.written (page_numbers slots.saved) some two)) two

-- the same checkpoints, by how many items were taken at each
whole_stands : (pages : ℕ) (list : List (Checkpoint Standing)) → stands_of (with_whole_oldest pages list) ≡ with_whole_oldest pages (stands_of list)
whole_stands pages [] = refl
whole_stands pages (one ∷ []) = refl
whole_stands pages (one ∷ (next ∷ older)) = ap (λ (stands : List Stand). stand_of one ∷ stands) (whole_stands pages (next ∷ older))

-- so what stands after a save is the definition's too
pub saved_stands : (slots : Slots Standing) {new : Slots Standing} (every : ℕ) → new ≡ saved_in_ring slots → stands_of new.saved ≡ with_another (keeping_by every slots) (taken_in slots.live) slots.written (stands_of slots.saved)
saved_stands slots every saves =
    let count : ℕ = room_for slots.count slots.pages slots.frames (slots.written ∷ page_numbers slots.saved) in
    let all : List (Checkpoint Standing) = record { state = slots.live; pages = slots.written } ∷ slots.saved in
    ap (λ (s : Slots Standing). stands_of s.saved) saves
    ∙ (whole_stands slots.pages (take count all)
    ∙ (ap (with_whole_oldest slots.pages) (sym (take-map stand_of count all))
    ∙ ap (λ (numbers : List ℕ). with_whole_oldest slots.pages (take (room_for slots.count slots.pages slots.frames (slots.written ∷ numbers)) (stands_of all))) (sym (map-map (λ (one : Stand). one.pages) stand_of slots.saved))))

-- as many checkpoints stand as runs
pub ring_length : (saved : List (Checkpoint Standing)) (ring : List Path) → map (λ (one : Checkpoint Standing). one.state) saved ≡ map standing_of ring → length saved ≡ length ring
ring_length saved ring same = sym (length-map saved (λ (one : Checkpoint Standing). one.state)) ∙ (ap length same ∙ length-map ring standing_of)

-- there is a run at each index of theirs
pub checkpoint_there : (saved : List (Checkpoint Standing)) (ring : List Path) {index : ℕ} → map (λ (one : Checkpoint Standing). one.state) saved ≡ map standing_of ring → index < length saved → (checkpoint : Path) × (slice_get ring index ≡ Some checkpoint)
checkpoint_there saved ring {index = index} same less = found_at ring index (omega (arith, less, ring_length saved ring same))

-- and a checkpoint at each index of the runs, where the run stands
pub saved_at : (saved : List (Checkpoint Standing)) (ring : List Path) (index : ℕ) {checkpoint : Path} → map (λ (one : Checkpoint Standing). one.state) saved ≡ map standing_of ring → slice_get ring index ≡ Some checkpoint
    → (one : Checkpoint Standing) × (slice_get saved index ≡ Some one) × (one.state ≡ standing_of checkpoint)
saved_at saved ring index {checkpoint = checkpoint} same found =
    map_some (λ (one : Checkpoint Standing). one.state) (slice_get saved index) (standing_of checkpoint)
    (sym (slice_get-map (λ (one : Checkpoint Standing). one.state) saved index) ∙ (ap (λ (states : List Standing). slice_get states index) same ∙ (slice_get-map standing_of ring index ∙ ap (option_map standing_of) found)))
