-- A table that becomes the live one, entry by entry.
use Rattle.cow_pages.proofs.Terms.{List, [], ap, arith, cond, drop, false, get_or, inl, inr, length, nat_lt, set, subst, sym, take, ℕ, ◌%◌, ◌++◌, ◌+◌, ◌-◌, ◌<◌, ◌∙◌, ◌∷◌, ◌≡◌, ◌≤◌, cases_eq, cases_lt, drop_more, ext_get_or, get_or-drop, get_or-set_other, get_or-take, length-set, RECENT, has, IsRenewed, IsStack, Recounts, SameUpTo, StandFrom, StaySame, places}
use Rattle.cow_pages.proofs.Counting.{Alike, has-get_or, places-append, places-none, places-set, places-some, places-take-drop}
use Rattle.cow_pages.proofs.Walks.{apart_there, by_live, counted_room, one_less, one_more, recounts_alike, recounts_on, stack_kept, stack_less, table_put}

-- the frame that a table has at a place is counted
pub renewed_some : {counts table live free : List ℕ} (i : ℕ) → IsRenewed counts table live free → i < length table → 0 < get_or counts (get_or table i 0) 0
renewed_some {table = table} i so less =
    let x = get_or table i 0 in
    omega (arith, so.fits.counted.each x, places-append x table so.fits.numbers, places-some x table (has-get_or table i less))

pub renewed_room : {counts table live free : List ℕ} (i : ℕ) → IsRenewed counts table live free → i < length table → length free < length counts
renewed_room i so less = counted_room _ so.fits.gives.stack (renewed_some i so less)

-- the table's other entries
abbrev others : ℕ → List ℕ → List ℕ
others i table = take i table ++ drop (i + 1) table

entry_out : (i : ℕ) (table : List ℕ) → i < length table → Alike table (get_or table i 0 ∷ others i table)
entry_out i table less n = omega (arith, places-take-drop n i table, ap (places n) (drop_more table i 0 less), places-append n (take i table) (drop (i + 1) table))

entry_in : (i y : ℕ) (table : List ℕ) → i < length table → Alike (y ∷ others i table) (set table i y)
entry_in i y table less n = omega (arith, places-set n table i y less, entry_out i table less n)

-- the live frame that is counted next has room
pub renewed_few : {counts table live free mid : List ℕ} (i : ℕ) → IsRenewed counts table live free → i < length table → (get_or table i 0 ≡ get_or live i 0 → ⊥) → mid ≡ set counts (get_or table i 0) (get_or counts (get_or table i 0) 0 - 1) → get_or mid (get_or live i 0) 0 < 255
renewed_few {counts = counts} {table = table} {live = live} i so less differ first =
    let x = get_or table i 0 in
    let y = get_or live i 0 in
    let gone : has y table ≡ false = apart_there i so.fits.gives.live_is so.fits.table_is (omega (arith, so.fits.table_is.size)) (λ e. differ (sym e)) in
    omega (arith, ap (λ xs. get_or xs y 0) first, get_or-set_other counts x y (get_or counts x 0 - 1) 0 (λ e. differ (sym e)), so.fits.counted.each y, places-append y table so.fits.numbers, places-none y table gone, so.few y)

-- what the walk leaves behind an entry, by its parts
pub walked : {i up down : ℕ} {counts table live free mid after left : List ℕ} → IsRenewed counts table live free → i < length table → (get_or table i 0 ≡ get_or live i 0 → ⊥) → mid ≡ set counts (get_or table i 0) (get_or counts (get_or table i 0) 0 - 1) → left ≡ cond (nat_lt 0 (get_or counts (get_or table i 0) 0 - 1)) free (free ++ get_or table i 0 ∷ [])
    → after ≡ set mid (get_or live i 0) (get_or mid (get_or live i 0) 0 + 1) → down ≡ cond (nat_lt 0 (get_or counts (get_or table i 0) 0 - 1)) 0 1 → up ≡ cond (nat_lt 0 (get_or mid (get_or live i 0) 0)) 0 1 → (IsRenewed after (set table i (get_or live i 0)) live left) × (Recounts counts table after (set table i (get_or live i 0)) up down)
walked {i = i} {up = up} {down = down} {counts = counts} {table = table} {live = live} {mid = mid} {after = after} {left = left} so less differ first stack second fall rise =
    let x = get_or table i 0 in
    let y = get_or live i 0 in
    let gives = so.fits.gives in
    let inside : i < length live = omega (arith, so.fits.table_is.size) in
    let size : length mid ≡ length counts = ap length first ∙ length-set counts x (get_or counts x 0 - 1) in
    let near : y < length mid = omega (arith, gives.live_is.below i inside, gives.many) in
    let down_one : Recounts counts (x ∷ others i table) mid (others i table) 0 down = subst (λ xs. Recounts counts (x ∷ others i table) xs (others i table) 0 down) (sym first) (one_less fall) in
    let up_one : Recounts mid (others i table) after (y ∷ others i table) up 0 = subst (λ xs. Recounts mid (others i table) xs (y ∷ others i table) up 0) (sym second) (one_more near rise) in
    let turn : Recounts counts table after (set table i y) up down = recounts_alike (recounts_on down_one up_one (omega arith) (omega arith)) (entry_out i table less) (entry_in i y table less) in
    let fewer : IsStack mid live left = subst (λ xs. IsStack xs live left) (sym first) (subst (IsStack (set counts x (get_or counts x 0 - 1)) live) (sym stack) (stack_less x gives.stack (renewed_some i so less) (apart_there i so.fits.table_is gives.live_is inside differ))) in (
      record {
        fits = record {
          gives = record {
            homes = gives.homes;
            many = gives.many ∙ sym (ap length second ∙ length-set mid y (get_or mid y 0 + 1) ∙ size);
            live_is = gives.live_is;
            stack = subst (λ xs. IsStack xs live left) (sym second) (stack_kept y _ fewer (by_live _ _ (has-get_or live i inside)) (by_live _ _ (has-get_or live i inside)));
          };
          table_is = table_put i y so.fits.table_is (gives.live_is.below i inside) (gives.live_is.home i inside);
          numbers = so.fits.numbers;
          counted = turn.counted so.fits.numbers so.fits.counted;
        };
        few = so.few;
      },
      turn,
    )

-- the whole table is the live one
pub renewed_all : {counts table live free : List ℕ} (i : ℕ) → IsRenewed counts table live free → SameUpTo i table live → length table ≤ i → table ≡ live
renewed_all {table = table} {live = live} i so same end = ext_get_or 0 table live so.fits.table_is.size (λ k less. same k (omega arith))

-- one more entry is the live one
pub same_more : (i : ℕ) (table after live : List ℕ) → SameUpTo i table live → StaySame table after live → get_or after i 0 ≡ get_or live i 0 → SameUpTo (i + 1) after live
same_more i table after live same stay here k less =
    elim (cases_eq i k) [ inl is ↦ subst (λ m. get_or after m 0 ≡ get_or live m 0) is here | inr other ↦ stay k (same k (omega arith)) ]

-- entries from one place up to another one are the live ones too
pub same_on : (i j : ℕ) (table live : List ℕ) → SameUpTo i table live → ((k : ℕ) → i ≤ k → k < j → get_or table k 0 ≡ get_or live k 0) → SameUpTo j table live
same_on i j table live same rest k less = elim (cases_lt k i) [ inl before ↦ same k before | inr later ↦ rest k later less ]

-- a table whose entry at a move's page is the live one
pub stand_more : (n end : ℕ) (recent table after live : List ℕ) → StandFrom n end recent table live → StaySame table after live → get_or after (get_or recent (n % RECENT) 0) 0 ≡ get_or live (get_or recent (n % RECENT) 0) 0 → StandFrom (n + 1) end recent after live
stand_more n end recent table after live so stay here k inside other =
    let found = so k inside (λ e. other (stay k e)) in
    elim (cases_eq n found.0) [
      | inl is ↦ absurd (other (subst (λ m. get_or after m 0 ≡ get_or live m 0) (ap (λ m. get_or recent (m % RECENT) 0) is ∙ found.3) here))
      | inr away ↦ (found.0, omega (arith, found.1, away), found.2, found.3)
    ]

-- no move is left
pub stand_all : {counts table live free : List ℕ} (n end : ℕ) (recent : List ℕ) → IsRenewed counts table live free → StandFrom n end recent table live → end ≤ n → table ≡ live
stand_all {table = table} {live = live} n end recent so stand past =
    ext_get_or 0 table live so.fits.table_is.size
    (λ k less. elim (cases_eq (get_or table k 0) (get_or live k 0)) [ inl is ↦ is | inr other ↦ (let found = stand k (omega (arith, so.fits.table_is.size)) other in absurd (omega (arith, found.1, found.2))) ])

-- a part that is the same in both tables
pub same_part : (i n : ℕ) (table live : List ℕ) → take n (drop i table) ≡ take n (drop i live) → (k : ℕ) → i ≤ k → k < i + n → get_or table k 0 ≡ get_or live k 0
same_part i n table live same k from less =
    let inside : k - i < n = omega arith in
    let place : i + (k - i) ≡ k = omega arith in
    let read : (xs : List ℕ) → get_or (take n (drop i xs)) (k - i) 0 ≡ get_or xs k 0 = λ xs. get_or-take n (drop i xs) (k - i) 0 inside ∙ get_or-drop i xs (k - i) 0 ∙ ap (λ m. get_or xs m 0) place in
    sym (read table) ∙ ap (λ xs. get_or xs (k - i) 0) same ∙ read live
