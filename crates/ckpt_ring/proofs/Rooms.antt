-- Which checkpoints have room, and what a save makes of them.
use Rattle.std.proofs.Math.Seq.{take-length}
use Rattle.std.proofs.lemmas.List.{length-take-le}
use Rattle.std.specs.Prelude.{IfSome, slice_get}
use Rattle.ckpt_ring.proofs.Terms.{Bool, List, [], ap, arith, drop, false, length, refl, subst, suc, sym, take, true, zero, ℕ, ⊎_elim, ◌+◌, ◌-◌, ◌<◌, ◌∙◌, ◌∷◌, ◌≡◌, ◌≤◌, and_parts, le-leb, leb-true, lt-leb, true≢false, drop-drop, take-map, take-take, sum_by-cons, sum_by-take-le, if◌then◌else◌, nat_le, sum, has_room, largest, room_for, saved_in_ring, AreSound, Checkpoint, Slots, all_numbers, oldest_of, page_numbers, used_pages, with_newest, with_saved, with_whole_oldest, without_newer, without_oldest}

module _ {X : Type 0} where
  -- the oldest isn't the newest where there are two
  pub oldest-behind : (one next : X) (older : List X) → oldest_of (one ∷ next ∷ older) ≡ oldest_of (next ∷ older)
  oldest-behind one next older = ap (slice_get (one ∷ next ∷ older)) (let place : length (one ∷ next ∷ older) - 1 ≡ suc (length (next ∷ older) - 1) = omega arith in place)

module _ {State : Type 0} where
  pub length-page_numbers : (saved : List (Checkpoint State)) → length (page_numbers saved) ≡ length saved
  length-page_numbers [] = refl
  length-page_numbers (one ∷ saved) = ap suc (length-page_numbers saved)

  -- all numbers but the last, and that of all pages, are those of the pages in use
  sum_behind : (number : ℕ) (saved : List (Checkpoint State)) (pages : ℕ) → IfSome (oldest_of saved) (λ one. one.pages ≡ pages) → (saved ≡ [] → number ≡ pages)
      → sum (number ∷ page_numbers saved) ≡ pages + sum (take (length saved) (number ∷ page_numbers saved))
  sum_behind number [] pages oldest none = sum_by-cons (λ n. n) number [] ∙ omega (arith, none refl)
  sum_behind number (one ∷ []) pages oldest none =
      sum_by-cons (λ n. n) number (one.pages ∷ []) ∙ omega (arith, sum_by-cons (λ n. n) one.pages [], sum_by-cons (λ n. n) number [], oldest)
  sum_behind number (one ∷ next ∷ older) pages oldest none =
      let last : IfSome (oldest_of (next ∷ older)) (λ one. one.pages ≡ pages) = subst (λ o. IfSome o (λ one. one.pages ≡ pages)) (oldest-behind one next older) oldest in
      sum_by-cons (λ n. n) number (page_numbers (one ∷ next ∷ older))
      ∙ omega (arith, sum_behind one.pages (next ∷ older) pages last (λ is. cc), sum_by-cons (λ n. n) number (take (length (next ∷ older)) (one.pages ∷ page_numbers (next ∷ older))))

  none_written : (slots : Slots State) → AreSound slots → slots.saved ≡ [] → slots.written ≡ slots.pages
  none_written slots sound none = ⊎_elim (λ stands. absurd (omega (arith, stands, ap length none))) (λ all. all.2) sound.stands

  pub sum-all_numbers : (slots : Slots State) → AreSound slots → sum (all_numbers slots) ≡ slots.pages + sum (take (length (all_numbers slots) - 1) (all_numbers slots))
  sum-all_numbers slots sound =
      let short : length (all_numbers slots) - 1 ≡ length slots.saved = omega (arith, length-page_numbers slots.saved) in
      sum_behind slots.written slots.saved slots.pages sound.oldest (none_written slots sound)
      ∙ ap (λ n. slots.pages + sum (take n (all_numbers slots))) (sym short)

-- a test of frames by the pages in use
pub has_room_by_used : (count pages frames used : ℕ) (numbers : List ℕ) → used ≡ pages + sum (take (length numbers - 1) numbers) → length numbers ≤ count → nat_le (used + pages) frames ≡ has_room count pages frames numbers
has_room_by_used count pages frames used numbers e within = rw (le-leb (length numbers) count within, e) refl

too_many : (count pages frames : ℕ) (numbers : List ℕ) → count < length numbers → has_room count pages frames numbers ≡ false
too_many count pages frames numbers many = rw (lt-leb (length numbers) count many) refl

room-is : (count pages frames : ℕ) (numbers : List ℕ) → length numbers ≤ count → pages + sum (take (length numbers - 1) numbers) + pages ≤ frames → has_room count pages frames numbers ≡ true
room-is count pages frames numbers few fits = rw (le-leb (length numbers) count few, le-leb (pages + sum (take (length numbers - 1) numbers) + pages) frames fits) refl

-- what is known where there is room
pub few_from_room : (count pages frames : ℕ) (numbers : List ℕ) → has_room count pages frames numbers ≡ true → length numbers ≤ count
few_from_room count pages frames numbers e = leb-true (length numbers) count (and_parts (nat_le (length numbers) count) _ e).0

pub frames_from_room : (count pages frames : ℕ) (numbers : List ℕ) → has_room count pages frames numbers ≡ true → pages + sum (take (length numbers - 1) numbers) + pages ≤ frames
frames_from_room count pages frames numbers e = leb-true (pages + sum (take (length numbers - 1) numbers) + pages) frames (and_parts (nat_le (length numbers) count) _ e).1

-- the largest number that passes, where this one does or doesn't
pub largest-passing : (test : ℕ → Bool) (number : ℕ) → test number ≡ true → largest test number ≡ number
largest-passing test zero passes = refl
largest-passing test (suc number) passes = rw passes refl

largest-failing : (test : ℕ → Bool) (number : ℕ) → test (suc number) ≡ false → largest test (suc number) ≡ largest test number
largest-failing test number fails = rw fails refl

largest-most : (test : ℕ → Bool) (number : ℕ) → largest test number ≤ number
largest-most test zero = omega arith
largest-most test (suc number) = by (test (suc number)) (largest-most test number) where
  by : (passes : Bool) → largest test number ≤ number → (if passes then suc number else largest test number) ≤ suc number
  by true low = omega arith
  by false low = omega (arith, low)

-- two tests that agree up to a number
largest-same : (one other : ℕ → Bool) (number : ℕ) → ((n : ℕ) → n ≤ number → one n ≡ other n) → largest one number ≡ largest other number
largest-same one other zero same = refl
largest-same one other (suc number) same =
    let rest : largest one number ≡ largest other number = largest-same one other number (λ n low. same n (omega (arith, low))) in
    rw (same (suc number) (omega arith), rest) refl

-- room doesn't depend on the last number
room-by : (count pages frames : ℕ) (one other : List ℕ) → length one ≡ length other → take (length one - 1) one ≡ take (length one - 1) other → has_room count pages frames one ≡ has_room count pages frames other
room-by count pages frames one other long same = rw (same, long) refl

module _ {State : Type 0} where
  pub length-whole : (pages : ℕ) (saved : List (Checkpoint State)) → length (with_whole_oldest pages saved) ≡ length saved
  length-whole pages [] = refl
  length-whole pages (one ∷ []) = refl
  length-whole pages (one ∷ next ∷ older) = ap suc (length-whole pages (next ∷ older))

  -- but for the oldest they are the same
  take-whole : (pages count : ℕ) (saved : List (Checkpoint State)) → count < length saved → take count (with_whole_oldest pages saved) ≡ take count saved
  take-whole pages zero saved less = refl
  take-whole pages (suc count) [] less = refl
  take-whole pages (suc count) (one ∷ []) less = absurd (omega (arith, less))
  take-whole pages (suc count) (one ∷ next ∷ older) less = ap (λ list. one ∷ list) (take-whole pages count (next ∷ older) (omega (arith, less)))

  -- the oldest of some of them is whole, once or twice
  whole-take-whole : (pages count : ℕ) (saved : List (Checkpoint State)) → with_whole_oldest pages (take count (with_whole_oldest pages saved)) ≡ with_whole_oldest pages (take count saved)
  whole-take-whole pages zero saved = refl
  whole-take-whole pages (suc count) [] = refl
  whole-take-whole pages (suc zero) (one ∷ []) = refl
  whole-take-whole pages (suc (suc count)) (one ∷ []) = refl
  whole-take-whole pages (suc zero) (one ∷ next ∷ older) = refl
  whole-take-whole pages (suc (suc count)) (one ∷ next ∷ []) = ap (λ list. one ∷ list) (whole-take-whole pages (suc count) (next ∷ []))
  whole-take-whole pages (suc (suc count)) (one ∷ next ∷ third ∷ older) = ap (λ list. one ∷ list) (whole-take-whole pages (suc count) (next ∷ third ∷ older))

  -- where the oldest is whole already
  whole-itself : (pages : ℕ) (saved : List (Checkpoint State)) → IfSome (oldest_of saved) (λ one. one.pages ≡ pages) → with_whole_oldest pages saved ≡ saved
  whole-itself pages [] whole = refl
  whole-itself pages (one ∷ []) whole = ap (λ n. record one { pages = n } ∷ []) (sym whole)
  whole-itself pages (one ∷ next ∷ older) whole =
      ap (λ list. one ∷ list) (whole-itself pages (next ∷ older) (subst (λ o. IfSome o (λ one. one.pages ≡ pages)) (oldest-behind one next older) whole))

  -- nothing of a room but the number of the oldest changes
  room-whole : (count pages frames number : ℕ) (line : List (Checkpoint State)) → number ≤ length line
      → has_room count pages frames (take number (page_numbers (with_whole_oldest pages line))) ≡ has_room count pages frames (take number (page_numbers line))
  room-whole count pages frames zero line low = refl
  room-whole count pages frames (suc number) line low =
      room-by count pages frames (take (suc number) (page_numbers (with_whole_oldest pages line))) (take (suc number) (page_numbers line))
      (long (with_whole_oldest pages line) (omega (arith, low, length-whole pages line)) ∙ sym (long line low))
      (ap (λ n. take (n - 1) (take (suc number) (page_numbers (with_whole_oldest pages line)))) (long (with_whole_oldest pages line) (omega (arith, low, length-whole pages line)))
      ∙ (ap (λ n. take n (take (suc number) (page_numbers (with_whole_oldest pages line)))) less ∙ front (with_whole_oldest pages line)
      ∙ ap page_numbers (take-whole pages number line (omega (arith, low))) ∙ sym (front line) ∙ sym (ap (λ n. take n (take (suc number) (page_numbers line))) less))
      ∙ sym (ap (λ n. take (n - 1) (take (suc number) (page_numbers line))) (long (with_whole_oldest pages line) (omega (arith, low, length-whole pages line)))))
    where
      less : suc number - 1 ≡ number
      less = omega arith

      long : (list : List (Checkpoint State)) → suc number ≤ length list → length (take (suc number) (page_numbers list)) ≡ suc number
      long list enough = length-take-le (suc number) (page_numbers list) (omega (arith, enough, length-page_numbers list))

      front : (list : List (Checkpoint State)) → take number (take (suc number) (page_numbers list)) ≡ page_numbers (take number list)
      front list = take-take number (suc number) (page_numbers list) (omega arith) ∙ take-map (λ (one : Checkpoint State). one.pages) number list

  -- those that stand of some of them
  abbrev pub standing : ℕ → ℕ → ℕ → List (Checkpoint State) → List (Checkpoint State)
  standing count pages frames line = with_whole_oldest pages (take (room_for count pages frames (page_numbers line)) line)

  -- where they haven't room the same ones stand without the oldest
  standing-without : (count pages frames short : ℕ) (line : List (Checkpoint State)) → length line ≡ suc short → has_room count pages frames (page_numbers line) ≡ false
      → standing count pages frames (with_whole_oldest pages (take short line)) ≡ standing count pages frames line
  standing-without count pages frames short line long full =
      let rest : List (Checkpoint State) = take short line in
      let few : length rest ≡ short = length-take-le short line (omega (arith, long)) in
      let test : ℕ → Bool = λ number. has_room count pages frames (take number (page_numbers line)) in
      let fewer : length (page_numbers (with_whole_oldest pages rest)) ≡ short = length-page_numbers (with_whole_oldest pages rest) ∙ length-whole pages rest ∙ few in
      let agree : (number : ℕ) → number ≤ short → has_room count pages frames (take number (page_numbers (with_whole_oldest pages rest))) ≡ test number =
      λ number low.
      room-whole count pages frames number rest (omega (arith, low, few))
      ∙ ap (has_room count pages frames)
      (take-map (λ (one : Checkpoint State). one.pages) number rest ∙ ap page_numbers (take-take number short line low) ∙ sym (take-map (λ (one : Checkpoint State). one.pages) number line)) in
      let all : length (page_numbers line) ≡ suc short = length-page_numbers line ∙ long in
      let fails : test (suc short) ≡ false = ap (λ n. has_room count pages frames (take n (page_numbers line))) (sym all) ∙ ap (has_room count pages frames) (take-length (page_numbers line)) ∙ full in
      let room : room_for count pages frames (page_numbers line) ≡ largest test short = ap (largest test) all ∙ largest-failing test short fails in
      let same : room_for count pages frames (page_numbers (with_whole_oldest pages rest)) ≡ largest test short =
      ap (largest (λ number. has_room count pages frames (take number (page_numbers (with_whole_oldest pages rest))))) fewer
      ∙ largest-same (λ number. has_room count pages frames (take number (page_numbers (with_whole_oldest pages rest)))) test short agree in
      ap (λ n. with_whole_oldest pages (take n (with_whole_oldest pages rest))) same
      ∙ whole-take-whole pages (largest test short) rest
      ∙ ap (with_whole_oldest pages) (take-take (largest test short) short line (largest-most test short))
      ∙ ap (λ n. with_whole_oldest pages (take n line)) (sym room)

  -- the live state and the checkpoints behind it
  abbrev line_with : Slots State → List (Checkpoint State) → List (Checkpoint State)
  line_with slots [] = record { state = slots.live; pages = slots.pages } ∷ []
  line_with slots (newest ∷ older) = record { state = slots.live; pages = slots.written } ∷ newest ∷ older

  ring-with : (slots : Slots State) (rest : List (Checkpoint State))
      → saved_in_ring (with_saved rest slots) ≡ record slots { saved = standing slots.count slots.pages slots.frames (line_with slots rest); newer = 0; written = 0 }
  ring-with slots [] = refl
  ring-with slots (newest ∷ older) = refl

  line-without : (slots : Slots State) (saved : List (Checkpoint State)) (short : ℕ) → length saved ≡ suc short
      → line_with slots (with_whole_oldest slots.pages (take short saved)) ≡ with_whole_oldest slots.pages (take (suc short) (record { state = slots.live; pages = slots.written } ∷ saved))
  line-without slots saved zero long = refl
  line-without slots [] (suc short) long = absurd (omega (arith, long))
  line-without slots (one ∷ saved) (suc zero) long = refl
  line-without slots (one ∷ []) (suc (suc short)) long = absurd (omega (arith, long))
  line-without slots (one ∷ next ∷ older) (suc (suc short)) long = refl

  -- a drop of the oldest where there is no room changes nothing of what stands after a save
  pub saved_in_ring-without_oldest : (slots : Slots State) → has_room slots.count slots.pages slots.frames (all_numbers slots) ≡ false → 0 < length slots.saved
      → saved_in_ring (without_oldest slots) ≡ saved_in_ring slots
  saved_in_ring-without_oldest slots full some =
      let short : ℕ = length slots.saved - 1 in
      let line : List (Checkpoint State) = record { state = slots.live; pages = slots.written } ∷ slots.saved in
      let long : length slots.saved ≡ suc short = omega (arith, some) in
      ring-with slots (with_whole_oldest slots.pages (take short slots.saved))
      ∙ ap (λ list. record slots { saved = list; newer = 0; written = 0 })
      (ap (standing slots.count slots.pages slots.frames) (line-without slots slots.saved short long)
      ∙ standing-without slots.count slots.pages slots.frames (suc short) line (omega (arith, long)) full)

  whole-line : (slots : Slots State) → AreSound slots → with_whole_oldest slots.pages (record { state = slots.live; pages = slots.written } ∷ slots.saved) ≡ record { state = slots.live; pages = slots.written } ∷ slots.saved
  whole-line slots sound =
      whole-itself slots.pages (record { state = slots.live; pages = slots.written } ∷ slots.saved) (last slots.saved sound.oldest (none_written slots sound))
    where
      last : (saved : List (Checkpoint State)) → IfSome (oldest_of saved) (λ one. one.pages ≡ slots.pages) → (saved ≡ [] → slots.written ≡ slots.pages)
          → IfSome (oldest_of (record { state = slots.live; pages = slots.written } ∷ saved)) (λ one. one.pages ≡ slots.pages)
      last [] oldest none = none refl
      last (one ∷ older) oldest none = subst (λ o. IfSome o (λ one. one.pages ≡ slots.pages)) (sym (oldest-behind (record { state = slots.live; pages = slots.written }) one older)) oldest

  -- where there is room a save drops nothing
  pub saved_in_ring-room : (slots : Slots State) → AreSound slots → has_room slots.count slots.pages slots.frames (all_numbers slots) ≡ true → saved_in_ring slots ≡ with_newest slots
  saved_in_ring-room slots sound room =
      let line : List (Checkpoint State) = record { state = slots.live; pages = slots.written } ∷ slots.saved in
      let test : ℕ → Bool = λ number. has_room slots.count slots.pages slots.frames (take number (all_numbers slots)) in
      let all : room_for slots.count slots.pages slots.frames (all_numbers slots) ≡ length (all_numbers slots) =
      largest-passing test (length (all_numbers slots)) (ap (has_room slots.count slots.pages slots.frames) (take-length (all_numbers slots)) ∙ room) in
      let long : length (all_numbers slots) ≡ length line = omega (arith, length-page_numbers slots.saved) in
      ap (λ n. record slots { saved = with_whole_oldest slots.pages (take n line); newer = 0; written = 0 }) (all ∙ long)
      ∙ ap (λ list. record slots { saved = with_whole_oldest slots.pages list; newer = 0; written = 0 }) (take-length line)
      ∙ ap (λ list. record slots { saved = list; newer = 0; written = 0 }) (whole-line slots sound)

  -- without the oldest there is one less, and the live state stands as before
  pub without_oldest-few : (slots : Slots State) → 0 < length slots.saved → length (without_oldest slots).saved + 1 ≡ length slots.saved
  without_oldest-few slots some = by (with_whole_oldest slots.pages (take (length slots.saved - 1) slots.saved)) (length-whole slots.pages (take (length slots.saved - 1) slots.saved)) where
    by : (rest : List (Checkpoint State)) → length rest ≡ length (take (length slots.saved - 1) slots.saved) → length (with_saved rest slots).saved + 1 ≡ length slots.saved
    by [] few = omega (arith, few, length-take-le (length slots.saved - 1) slots.saved (omega arith), some)
    by (one ∷ older) few = omega (arith, few, length-take-le (length slots.saved - 1) slots.saved (omega arith), some)

  pub without_oldest-keeps : (slots : Slots State) → ((without_oldest slots).newer ≡ slots.newer) × ((without_oldest slots).count ≡ slots.count)
  without_oldest-keeps slots = by (with_whole_oldest slots.pages (take (length slots.saved - 1) slots.saved)) where
    by : (rest : List (Checkpoint State)) → ((with_saved rest slots).newer ≡ slots.newer) × ((with_saved rest slots).count ≡ slots.count)
    by [] = (refl, refl)
    by (one ∷ older) = (refl, refl)

  newest-with : (slots : Slots State) (rest : List (Checkpoint State)) → with_newest (with_saved rest slots) ≡ record slots { saved = line_with slots rest; newer = 0; written = 0 }
  newest-with slots [] = refl
  newest-with slots (newest ∷ older) = refl

  -- where as many stand as can, a save drops the oldest
  pub saved_in_ring-full : (slots : Slots State) → AreSound slots → 1 ≤ slots.count → length slots.saved ≡ slots.count → used_pages slots + slots.pages ≤ slots.frames → saved_in_ring slots ≡ with_newest (without_oldest slots)
  saved_in_ring-full slots sound some full fits =
      let numbers : List ℕ = all_numbers slots in
      let line : List (Checkpoint State) = record { state = slots.live; pages = slots.written } ∷ slots.saved in
      let stand : ℕ = length slots.saved in
      let short : ℕ = stand - 1 in
      let test : ℕ → Bool = λ number. has_room slots.count slots.pages slots.frames (take number numbers) in
      let long : length numbers ≡ suc stand = omega (arith, length-page_numbers slots.saved) in
      let many : length (take stand numbers) ≡ stand = length-take-le stand numbers (omega (arith, long)) in
      let fails : test (suc stand) ≡ false =
      ap (λ n. has_room slots.count slots.pages slots.frames (take n numbers)) (sym long) ∙ ap (has_room slots.count slots.pages slots.frames) (take-length numbers)
      ∙ too_many slots.count slots.pages slots.frames numbers (omega (arith, long, full)) in
      let front : take (length (take stand numbers) - 1) (take stand numbers) ≡ take short (take stand numbers) = ap (λ n. take (n - 1) (take stand numbers)) many in
      let less : sum (take short (take stand numbers)) ≤ sum (take stand numbers) = sum_by-take-le (λ n. n) (take stand numbers) short in
      let used : sum numbers ≡ slots.pages + sum (take (length numbers - 1) numbers) = sum-all_numbers slots sound in
      let all : take (length numbers - 1) numbers ≡ take stand numbers = ap (λ n. take n numbers) (let e : length numbers - 1 ≡ stand = omega (arith, long) in e) in
      let passes : test stand ≡ true =
      room-is slots.count slots.pages slots.frames (take stand numbers) (omega (arith, many, full))
      (let same = ap sum front in let whole = ap sum all in omega (arith, same, whole, less, used, fits)) in
      let room : room_for slots.count slots.pages slots.frames numbers ≡ stand = ap (largest test) long ∙ largest-failing test stand fails ∙ largest-passing test stand passes in
      ap (λ n. record slots { saved = with_whole_oldest slots.pages (take n line); newer = 0; written = 0 }) room
      ∙ ap (λ list. record slots { saved = list; newer = 0; written = 0 })
      (ap (λ n. with_whole_oldest slots.pages (take n line)) (let e : stand ≡ suc short = omega (arith, some, full) in e)
      ∙ sym (line-without slots slots.saved short (omega (arith, some, full))))
      ∙ sym (newest-with slots (with_whole_oldest slots.pages (take short slots.saved)))

  -- where no more has room some stand
  pub some-left : (slots : Slots State) → AreSound slots → 1 ≤ slots.count → has_room slots.count slots.pages slots.frames (all_numbers slots) ≡ false → 0 < length slots.saved
  some-left slots sound some full = by slots.saved refl where
    by : (saved : List (Checkpoint State)) → slots.saved ≡ saved → 0 < length saved
    by [] none =
        absurd (true≢false (sym (room-is slots.count slots.pages slots.frames (slots.written ∷ []) some (omega (arith, sound.frames)))
        ∙ (ap (λ (list : List (Checkpoint State)). has_room slots.count slots.pages slots.frames (slots.written ∷ page_numbers list)) (sym none) ∙ full)))
    by (one ∷ older) is = omega arith

  -- the newest ones go one after another
  pub without_newer-more : (count : ℕ) (slots : Slots State) → without_newer 1 (without_newer count slots) ≡ without_newer (count + 1) slots
  without_newer-more count slots =
      ap (λ list. record slots { saved = list; newer = slots.newer - count - 1 }) (drop-drop 1 count slots.saved)
      ∙ ap (λ n. record slots { saved = drop (count + 1) slots.saved; newer = n }) (let e : slots.newer - count - 1 ≡ slots.newer - (count + 1) = omega arith in e)
