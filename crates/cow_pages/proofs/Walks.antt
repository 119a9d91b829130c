-- One step of each walk over a table.
use Rattle.cow_pages.proofs.Terms.{Bool, List, [], ap, arith, cond, drop, false, get_or, inl, inr, length, nat_lt, refl, set, subst, sym, take, true, ℕ, ◌++◌, ◌+◌, ◌-◌, ◌<◌, ◌||◌, ◌∙◌, ◌∷◌, ◌≡◌, ◌≤◌, cases_Bool, cases_eq, cases_lt, le-ltb, lt-ltb, ne_eqb, or_left, or_right, common_steps, drop_all, drop_more, get_or-drop, get_or-set_other, get_or-set_same, length-drop, length-set, take_all, take_more, different, has, CanCount, CanGiveUp, CanUncount, Counts, IsStack, IsTable, Recounts, places}
use Rattle.cow_pages.proofs.Counting.{Alike, different-alike, different-front, has-at, has-get_or, has-nowhere, length-missing, places-append, places-here, places-take-drop, places-there}

-- a frame has one place in all tables
pub table_home : {pages : ℕ} {homes table other : List ℕ} → IsTable pages homes table → IsTable pages homes other → (k j : ℕ) → k < length table → j < length other → get_or table k 0 ≡ get_or other j 0 → k ≡ j
table_home {homes = homes} so too k j lk lj e =
    sym (so.home k (omega (arith, so.size))) ∙ ap (λ n. get_or homes n 0) e ∙ too.home j (omega (arith, too.size))

-- a table with another frame of a page
pub table_put : {pages : ℕ} {homes table : List ℕ} (i x : ℕ) → IsTable pages homes table → x < length homes → get_or homes x 0 ≡ i → IsTable pages homes (set table i x)
table_put {homes = homes} {table = table} i x so near home = record {
  size = length-set table i x ∙ so.size;
  below = λ k less. grind (arith, get_or-set_same, get_or-set_other, length-set, so.size, so.below k);
  home = λ k less. grind (arith, get_or-set_same, get_or-set_other, length-set, so.size, so.home k);
}

-- a frame that one table has where another has another one isn't in that one
pub apart_there : {pages : ℕ} {homes table live : List ℕ} (i : ℕ) → IsTable pages homes table → IsTable pages homes live → i < pages → (get_or table i 0 ≡ get_or live i 0 → ⊥) → has (get_or table i 0) live ≡ false
apart_there {table = table} {live = live} i so too less other =
    has-nowhere (get_or table i 0) live
    (λ j near e. other (sym e ∙ ap (λ k. get_or live k 0) (sym (table_home so too i j (omega (arith, so.size)) near (sym e)))))

-- a number that is counted is below the counts
pub counted_below : (counts : List ℕ) (n : ℕ) → 0 < get_or counts n 0 → n < length counts
counted_below counts n some = grind (arith, common_steps)

-- counts of one list are those of another with the same numbers
pub counts_alike : {counts xs ys : List ℕ} → Counts counts xs → Alike xs ys → Counts counts ys
counts_alike so same = record { each = λ n. so.each n ∙ same n }

-- a count that is put
counts_put : {counts was now : List ℕ} {x v : ℕ} → Counts counts was → x < length counts → v ≡ places x now → ((n : ℕ) → (x ≡ n → ⊥) → places n was ≡ places n now) → Counts (set counts x v) now
counts_put {counts = counts} {x = x} {v = v} so near is others = record {
  each = λ n. elim (cases_eq x n) [ inl here ↦ rw (← here, get_or-set_same counts x v 0 near) is | inr other ↦ get_or-set_other counts x n v 0 (λ e. other (sym e)) ∙ so.each n ∙ others n other ];
}

-- a number is counted once more
pub one_more : {counts rest : List ℕ} {y up : ℕ} → y < length counts → up ≡ cond (nat_lt 0 (get_or counts y 0)) 0 1 → Recounts counts rest (set counts y (get_or counts y 0 + 1)) (y ∷ rest) up 0
one_more {counts = counts} {rest = rest} {y = y} near is = record {
  counted = λ numbers so. counts_put so near (omega (arith, so.each y, places-here y (rest ++ numbers))) (λ n other. sym (places-there n y (rest ++ numbers) other));
  turn = λ numbers so.
      let now : different (y ∷ rest ++ numbers) ≡ different (rest ++ numbers) + cond (nat_lt 0 (get_or counts y 0)) 0 1 = different-front y (rest ++ numbers) ∙ ap (λ n. different (rest ++ numbers) + cond (nat_lt 0 n) 0 1) (sym (so.each y)) in
      omega (arith, now, is);
}

-- and once less
pub one_less : {counts rest : List ℕ} {x down : ℕ} → down ≡ cond (nat_lt 0 (get_or counts x 0 - 1)) 0 1 → Recounts counts (x ∷ rest) (set counts x (get_or counts x 0 - 1)) rest 0 down
one_less {counts = counts} {rest = rest} {x = x} is = record {
  counted = λ numbers so. counts_put so (counted_below counts x (omega (arith, so.each x, places-here x (rest ++ numbers)))) (omega (arith, so.each x, places-here x (rest ++ numbers))) (λ n other. places-there n x (rest ++ numbers) other);
  turn = λ numbers so.
      let fewer : places x (rest ++ numbers) ≡ get_or counts x 0 - 1 = omega (arith, so.each x, places-here x (rest ++ numbers)) in
      let was : different (x ∷ rest ++ numbers) ≡ different (rest ++ numbers) + cond (nat_lt 0 (get_or counts x 0 - 1)) 0 1 = different-front x (rest ++ numbers) ∙ ap (λ n. different (rest ++ numbers) + cond (nat_lt 0 n) 0 1) fewer in
      omega (arith, was, is);
}

-- one change of the counts behind another
pub recounts_on : {counts table mid other after next : List ℕ} {added removed more less up down : ℕ} → Recounts counts table mid other added removed → Recounts mid other after next more less → up ≡ added + more → down ≡ removed + less → Recounts counts table after next up down
recounts_on one two rise fall = record {
  counted = λ numbers so. two.counted numbers (one.counted numbers so);
  turn = λ numbers so. omega (arith, one.turn numbers so, two.turn numbers (one.counted numbers so), rise, fall);
}

pub recounts_none : {counts table : List ℕ} → Recounts counts table counts table 0 0
recounts_none = record { counted = λ numbers so. so; turn = λ numbers so. refl }

-- the same for other lists with the same numbers
pub recounts_alike : {counts table after next was now : List ℕ} {added removed : ℕ} → Recounts counts table after next added removed → Alike was table → Alike next now → Recounts counts was after now added removed
recounts_alike {table = table} {next = next} {was = was} {now = now} so first second =
    let left : (numbers : List ℕ) → Alike (was ++ numbers) (table ++ numbers) = λ numbers n. omega (arith, first n, places-append n was numbers, places-append n table numbers) in
    let right : (numbers : List ℕ) → Alike (next ++ numbers) (now ++ numbers) = λ numbers n. omega (arith, second n, places-append n next numbers, places-append n now numbers) in
    record {
      counted = λ numbers all. counts_alike (so.counted numbers (counts_alike all (left numbers))) (right numbers);
      turn = λ numbers all. omega (arith, so.turn numbers (counts_alike all (left numbers)), different-alike _ _ (left numbers), different-alike _ _ (right numbers));
    }

-- the front of a table with one more number
front_more : (i : ℕ) (table : List ℕ) → i < length table → Alike (get_or table i 0 ∷ take i table) (take (i + 1) table)
front_more i table less n = omega (arith, ap (places n) (take_more table i 0 less), places-append n (take i table) (get_or table i 0 ∷ []))

-- so many numbers of a table are counted once more
pub record Counting (initial counts table : List ℕ) (i added : ℕ) : Type 0 where
  pub size : length counts ≡ length initial
  pub few : added ≤ i
  pub walk : Recounts initial [] counts (take i table) added 0

-- the next number fits in its count
pub counting_fits : {initial counts table : List ℕ} {i added : ℕ} → Counting initial counts table i added → CanCount initial table → i < length table → get_or counts (get_or table i 0) 0 + 1 < 256
counting_fits {table = table} {i = i} so can less =
    let x = get_or table i 0 in
    omega (arith, (so.walk.counted can.numbers can.counted).each x, places-append x (take i table) can.numbers, front_more i table less x, places-here x (take i table), places-take-drop x (i + 1) table, can.few x)

pub counting_more : {initial counts table : List ℕ} {i added later : ℕ} → Counting initial counts table i added → CanCount initial table → i < length table → later ≡ added + cond (nat_lt 0 (get_or counts (get_or table i 0) 0)) 0 1 → Counting initial (set counts (get_or table i 0) (get_or counts (get_or table i 0) 0 + 1)) table (i + 1) later
counting_more {initial = initial} {counts = counts} {table = table} {i = i} {added = added} {later = later} so can less rise =
    let x = get_or table i 0 in
    let near : x < length counts = subst (λ n. x < n) (sym so.size) (can.below i less) in
    record {
      size = length-set counts x (get_or counts x 0 + 1) ∙ so.size;
      few = (let few = so.few in grind (arith, rise, few));
      walk = recounts_alike (recounts_on so.walk (one_more near refl) rise refl) (λ n. refl) (front_more i table less);
    }

-- the whole table is counted
pub counting_all : {initial counts table : List ℕ} {i added : ℕ} → Counting initial counts table i added → length table ≤ i → Recounts initial [] counts table added 0
counting_all {initial = initial} {counts = counts} {table = table} {i = i} {added = added} so end = subst (λ xs. Recounts initial [] counts xs added 0) (take_all i table end) so.walk

-- whether a frame is in use
abbrev pub in_use : List ℕ → List ℕ → ℕ → Bool
in_use counts live n = nat_lt 0 (get_or counts n 0) || has n live

-- it is by its count, or by the live table
pub by_count : (count : ℕ) (live : Bool) → 0 < count → (nat_lt 0 count || live) ≡ true
by_count count live some = or_left (nat_lt 0 count) live (lt-ltb 0 count some)

pub by_live : (count : ℕ) (live : Bool) → live ≡ true → (nat_lt 0 count || live) ≡ true
by_live count live is = or_right (nat_lt 0 count) live is

pub by_neither : (count : ℕ) (live : Bool) → count ≡ 0 → live ≡ false → (nat_lt 0 count || live) ≡ false
by_neither count live none isnt = ap (λ n. nat_lt 0 n || live) none ∙ isnt

pub stack_same : {counts after live next free : List ℕ} → IsStack counts live free → length after ≡ length counts → ((n : ℕ) → n < length counts → in_use after next n ≡ in_use counts live n) → IsStack after next free
stack_same {counts = counts} {free = free} so size same = record {
  below = λ k less. subst (λ m. get_or free k 0 < m) (sym size) (so.below k less);
  each = λ n less. let near : n < length counts = omega arith in so.each n near ∙ ap (λ b. cond b 0 1) (sym (same n near));
}

pub stack_push : {counts after live next free : List ℕ} {x : ℕ} → IsStack counts live free → length after ≡ length counts → x < length counts → ((n : ℕ) → n < length counts → (x ≡ n → ⊥) → in_use after next n ≡ in_use counts live n) → in_use counts live x ≡ true → in_use after next x ≡ false → IsStack after next (free ++ x ∷ [])
stack_push {counts = counts} {after = after} {next = next} {free = free} {x = x} so size near same was is = record {
  below = λ k less. grind (arith, common_steps, so.below k);
  each = λ n less.
      elim (cases_eq x n) [
        | inl here ↦ rw (← here, places-append x free (x ∷ []), so.each x near, was, is, places-here x []) refl
        | inr other ↦ rw (places-append n free (x ∷ []), places-there n x [] other, so.each n (omega arith), same n (omega arith) other) (omega arith)
      ];
}

-- a frame that stays in use has another count
pub stack_kept : {counts live free : List ℕ} (x v : ℕ) → IsStack counts live free → in_use counts live x ≡ true → (nat_lt 0 v || has x live) ≡ true → IsStack (set counts x v) live free
stack_kept {counts = counts} x v so was now =
    stack_same so (length-set counts x v)
    (λ n under. elim (cases_eq x n) [ inl here ↦ rw (← here, was, get_or-set_same counts x v 0 (omega arith)) now | inr other ↦ rw (get_or-set_other counts x n v 0 (λ e. other (sym e))) refl ])

-- a frame that is no longer in use is given back
pub stack_freed : {counts live free : List ℕ} (x : ℕ) → IsStack counts live free → 0 < get_or counts x 0 → get_or counts x 0 - 1 ≡ 0 → has x live ≡ false → IsStack (set counts x (get_or counts x 0 - 1)) live (free ++ x ∷ [])
stack_freed {counts = counts} {live = live} x so some gone isnt =
    let near : x < length counts = counted_below counts x some in
    stack_push so (length-set counts x (get_or counts x 0 - 1)) near (λ n under other. ap (λ m. nat_lt 0 m || has n live) (get_or-set_other counts x n (get_or counts x 0 - 1) 0 (λ e. other (sym e))))
    (by_count _ _ some) (by_neither _ _ (get_or-set_same counts x (get_or counts x 0 - 1) 0 near ∙ gone) isnt)

-- the stack behind a frame that is counted once less
pub stack_less : {counts live free : List ℕ} (x : ℕ) → IsStack counts live free → 0 < get_or counts x 0 → has x live ≡ false → IsStack (set counts x (get_or counts x 0 - 1)) live (cond (nat_lt 0 (get_or counts x 0 - 1)) free (free ++ x ∷ []))
stack_less {counts = counts} {live = live} {free = free} x so some gone =
    elim (cases_lt 0 (get_or counts x 0 - 1)) [
      | inl kept ↦ rw (lt-ltb 0 (get_or counts x 0 - 1) kept) (stack_kept x _ so (by_count _ _ some) (by_count _ _ kept))
      | inr none ↦ rw (le-ltb 0 (get_or counts x 0 - 1) none) (stack_freed x so some (omega arith) gone)
    ]

-- a frame that is in use isn't on the stack, so there is room for it
pub stack_room : {counts live free : List ℕ} (x : ℕ) → IsStack counts live free → x < length counts → in_use counts live x ≡ true → length free < length counts
stack_room {counts = counts} {live = live} {free = free} x so near was =
    length-missing (length counts) x free so.below
    (λ n less. elim (in_use counts live n) as (λ b. places n free ≡ cond b 0 1 → places n free ≤ 1) [ true ↦ (λ e. omega arith) | false ↦ (λ e. omega arith) ] (so.each n less))
    near (so.each x near ∙ ap (λ b. cond b 0 1) was)

pub counted_room : {counts live free : List ℕ} (x : ℕ) → IsStack counts live free → 0 < get_or counts x 0 → length free < length counts
counted_room {counts = counts} x so some = stack_room x so (counted_below counts x some) (by_count _ _ some)

-- so many numbers of a table are counted once less
pub record Uncounting (initial counts table live free : List ℕ) (i removed : ℕ) : Type 0 where
  pub few : removed ≤ i
  pub walk : Recounts initial table counts (drop i table) 0 removed
  pub stack : IsStack counts live free

-- the next number has a count
pub uncounting_some : {initial counts table live free start : List ℕ} {i removed : ℕ} → Uncounting initial counts table live free i removed → CanUncount initial table live start → i < length table → 0 < get_or counts (get_or table i 0) 0
uncounting_some {table = table} {i = i} so can less =
    let x = get_or table i 0 in
    omega (arith, (so.walk.counted can.numbers can.counted).each x, places-append x (drop i table) can.numbers, ap (places x) (drop_more table i 0 less), places-here x (drop (i + 1) table))

pub uncounting_more : {initial counts table live free left : List ℕ} {i removed later : ℕ} → Uncounting initial counts table live free i removed → i < length table → later ≡ removed + cond (nat_lt 0 (get_or counts (get_or table i 0) 0 - 1)) 0 1 → IsStack (set counts (get_or table i 0) (get_or counts (get_or table i 0) 0 - 1)) live left → Uncounting initial (set counts (get_or table i 0) (get_or counts (get_or table i 0) 0 - 1)) table live left (i + 1) later
uncounting_more {initial = initial} {counts = counts} {table = table} {i = i} {removed = removed} {later = later} so less rise stack =
    let x = get_or table i 0 in
    record {
      few = (let few = so.few in grind (arith, rise, few));
      walk = recounts_on (subst (λ xs. Recounts initial table counts xs 0 removed) (drop_more table i 0 less) so.walk) (one_less refl) refl rise;
      stack = stack;
    }

pub uncounting_all : {initial counts table live free : List ℕ} {i removed : ℕ} → Uncounting initial counts table live free i removed → length table ≤ i → Recounts initial table counts [] 0 removed
uncounting_all {initial = initial} {counts = counts} {table = table} {i = i} {removed = removed} so end = subst (λ xs. Recounts initial table counts xs 0 removed) (drop_all i table end) so.walk

-- the next frame of the live table has a count
pub give_kept : {counts free : List ℕ} (live : List ℕ) (i : ℕ) → IsStack counts (drop i live) free → i < length live → (get_or counts (get_or live i 0) 0 ≡ 0 → ⊥) → IsStack counts (drop (i + 1) live) free
give_kept {counts = counts} {free = free} live i so less some =
    let x = get_or live i 0 in
    stack_same (subst (λ xs. IsStack counts xs free) (drop_more live i 0 less) so) refl
    (λ n under. elim (cases_eq x n) [ inl here ↦ rw (← here, by_count (get_or counts x 0) _ (omega arith), by_count (get_or counts x 0) _ (omega arith)) refl | inr other ↦ rw (ne_eqb x n other) refl ])

-- it has none
pub give_free : {counts live free start : List ℕ} (i : ℕ) → IsStack counts (drop i live) free → CanGiveUp counts live start → i < length live → get_or counts (get_or live i 0) 0 ≡ 0 → IsStack counts (drop (i + 1) live) (free ++ get_or live i 0 ∷ [])
give_free {counts = counts} {live = live} {free = free} i so can less none =
    let x = get_or live i 0 in
    let gone : has x (drop (i + 1) live) ≡ false =
    has-nowhere x (drop (i + 1) live)
    (λ k inside e. let same : i ≡ i + 1 + k = table_home can.live_is can.live_is i (i + 1 + k) less (omega (arith, length-drop (i + 1) live)) (sym e ∙ get_or-drop (i + 1) live k 0) in omega arith) in
    stack_push (subst (λ xs. IsStack counts xs free) (drop_more live i 0 less) so) refl (omega (arith, can.live_is.below i less, can.many))
    (λ n under other. ap (λ b. nat_lt 0 (get_or counts n 0) || (b || has n (drop (i + 1) live))) (sym (ne_eqb x n other)))
    (by_live _ _ (has-get_or (x ∷ drop (i + 1) live) 0 (omega arith))) (by_neither _ _ none gone)

pub give_room : {counts live free start : List ℕ} (i : ℕ) → IsStack counts (drop i live) free → CanGiveUp counts live start → i < length live → length free < length counts
give_room {counts = counts} {live = live} {free = free} i so can less =
    stack_room (get_or live i 0) (subst (λ xs. IsStack counts xs free) (drop_more live i 0 less) so) (omega (arith, can.live_is.below i less, can.many))
    (by_live _ _ (has-get_or (get_or live i 0 ∷ drop (i + 1) live) 0 (omega arith)))

-- any table of frames that all have a count may be the live one then
pub give_all : {counts free : List ℕ} (live : List ℕ) (i : ℕ) → IsStack counts (drop i live) free → length live ≤ i → (other : List ℕ) → ((k : ℕ) → k < length other → 0 < get_or counts (get_or other k 0) 0) → IsStack counts other free
give_all {counts = counts} {free = free} live i so end other counted =
    stack_same (subst (λ xs. IsStack counts xs free) (drop_all i live end) so) refl
    (λ n under.
    elim (cases_Bool (has n other)) [
      | inl is ↦ (let found = has-at n other is in let some : 0 < get_or counts n 0 = subst (λ m. 0 < get_or counts m 0) found.2 (counted found.0 found.1) in rw (by_count _ false some) (by_count _ _ some))
      | inr isnt ↦ rw isnt refl
    ])
