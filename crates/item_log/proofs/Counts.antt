-- What items make of the counts of connections.
use Rattle.std.proofs.Math.Seq.{take-add}
use Rattle.std.proofs.lemmas.List.Elements.{All-set}
use Rattle.item_log.proofs.Terms.{List, Option, Some, [], ap, arith, drop, get_or, if◌then◌else◌, inl, inr, length, refl, subst, sym, take, ℕ, ◌++◌, ◌+◌, ◌-◌, ◌<◌, ◌∙◌, ◌∷◌, ◌≡◌, ◌≤◌, cases_lt, cond_both, get_or-drop, get_or-replicate, get_or-set_other, get_or-set_same, get_or_past, length-drop, length-replicate, length-set, length-take, set_past, take_more, slice_get-get_or, option_map_or, All, ◌==◌, ◌≢◌, Item, CONNECTIONS, MESSAGE, OPENED, count_then, counted, counted_one, none_counted, number_at}

-- items that come in two parts
pub counted-append : (counts : List ℕ) (xs ys : List Item) → counted counts (xs ++ ys) ≡ counted (counted counts xs) ys
unfolding counted
counted-append counts [] ys = refl
counted-append counts (x ∷ xs) ys = counted-append (counted_one counts x) xs ys

pub counted-none : (counts : List ℕ) → counted counts [] ≡ counts
unfolding counted
counted-none counts = refl

pub counted-front : (counts : List ℕ) (items : List Item) (n m : ℕ) → counted (counted counts (take n items)) (take m (drop n items)) ≡ counted counts (take (n + m) items)
counted-front counts items n m = sym (counted-append counts (take n items) (take m (drop n items))) ∙ ap (counted counts) (sym (take-add n m items))

-- one item more
pub counted-more : (counts : List ℕ) (items : List Item) (i : ℕ) (item : Item) → item ≡ get_or items i item → i < length items → counted counts (take (i + 1) items) ≡ counted_one (counted counts (take i items)) item
unfolding counted
counted-more counts items i item is lt =
    ap (counted counts) (take_more items i item lt ∙ ap (λ (last : Item). take i items ++ last ∷ []) (sym is)) ∙ counted-append counts (take i items) (item ∷ [])

pub counted-next : (counts : List ℕ) (items rest : List Item) (i : ℕ) (item : Item) → drop i items ≡ item ∷ rest → counted counts (take (i + 1) items) ≡ counted_one (counted counts (take i items)) item
counted-next counts items rest i item is =
    let place : i ≡ i + 0 = omega arith in
    let here : item ≡ get_or items i item = sym (ap (λ (n : ℕ). get_or items n item) place ∙ sym (get_or-drop i items 0 item) ∙ ap (λ (all : List Item). get_or all 0 item) is) in
    counted-more counts items i item here (omega (arith, length-drop i items, ap length is))

pub length-counted : (counts : List ℕ) (items : List Item) → length (counted counts items) ≡ length counts
unfolding counted
length-counted counts [] = refl
length-counted counts (item ∷ items) = length-counted (counted_one counts item) items ∙ length-set counts item.conn (count_then item.kind (get_or counts item.conn 0))

-- an item raises a count by one at most
count_rises : (kind count : ℕ) → count_then kind count ≤ count + 1
count_rises kind count =
    cond_both (kind == OPENED) 0 (if kind == MESSAGE then count + 1 else count) (λ n. n ≤ count + 1) (λ _. omega arith) (λ _. cond_both (kind == MESSAGE) (count + 1) count (λ n. n ≤ count + 1) (λ _. omega arith) (λ _. omega arith))

room_one : (room more : ℕ) (counts : List ℕ) (item : Item) → All (λ (c : ℕ). c + (more + 1) < room) counts → All (λ (c : ℕ). c + more < room) (counted_one counts item)
room_one room more counts item h =
    let fewer : All (λ (c : ℕ). c + more < room) counts = λ k d lt. let was = h k d lt in omega arith in
    elim (cases_lt item.conn (length counts)) [
      | inl below ↦
          All-set (λ (c : ℕ). c + more < room) counts item.conn (count_then item.kind (get_or counts item.conn 0))
          (let was = h item.conn 0 below in let rises = count_rises item.kind (get_or counts item.conn 0) in omega arith) fewer
      | inr past ↦ subst (All (λ (c : ℕ). c + more < room)) (sym (set_past counts item.conn (count_then item.kind (get_or counts item.conn 0)) past)) fewer
    ]

-- as many messages fewer can be counted as items were counted
room_counted : (room more : ℕ) (counts : List ℕ) (items : List Item) → All (λ (c : ℕ). c + (length items + more) < room) counts → All (λ (c : ℕ). c + more < room) (counted counts items)
unfolding counted
room_counted room more counts [] h = λ k d lt. let was = h k d lt in omega arith
room_counted room more counts (item ∷ items) h =
    room_counted room more (counted_one counts item) items (room_one room (length items + more) counts item (λ k d lt. let was = h k d lt in omega arith))

pub room_left : (room n i more : ℕ) (counts : List ℕ) (items : List Item) → All (λ (c : ℕ). c + n < room) counts → i + more ≤ n → All (λ (c : ℕ). c + more < room) (counted counts (take i items))
room_left room n i more counts items h le = room_counted room more counts (take i items) (λ k d lt. let was = h k d lt in let long = length-take i items in omega arith)

pub count_fits : (room n i conn count : ℕ) (counts : List ℕ) (items : List Item) → All (λ (c : ℕ). c + n < room) counts → i < n → conn < length counts → count ≡ get_or (counted counts (take i items)) conn 0 → count + 1 < room
count_fits room n i conn count counts items h lt within is =
    let left = room_left room n i 1 counts items h (omega arith) conn 0 (omega (arith, length-counted counts (take i items), within)) in
    omega (arith, is, left)

-- no count is more than the number of the first item that is kept, also once more are given up
pub most_left : (first before : ℕ) (counts : List ℕ) (items : List Item) → All (λ (c : ℕ). c ≤ first) counts → first ≤ before → All (λ (c : ℕ). c ≤ before) (counted counts (take (before - first) items))
most_left first before counts items h le = λ k d lt.
    let left = room_left (before + 1) (before - first) (before - first) 0 counts items (λ j e below. let was = h j e below in omega arith) (omega arith) k d lt in omega arith

-- none was counted
pub none_most : All (λ (c : ℕ). c ≤ 0) none_counted
unfolding none_counted
none_most = λ k d lt. let is = get_or-replicate {A = ℕ} CONNECTIONS k 0 d (omega (arith, lt, length-replicate {A = ℕ} CONNECTIONS 0)) in omega (arith, is)

-- the count of a connection after one item more
pub count_same : (counts : List ℕ) (items : List Item) (i : ℕ) (item : Item) (conn count : ℕ) → item ≡ get_or items i item → i < length items → conn < length counts → item.conn ≡ conn → count ≡ get_or (counted counts (take i items)) conn 0 →
    count_then item.kind count ≡ get_or (counted counts (take (i + 1) items)) conn 0
count_same counts items i item conn count is lt within here before =
    let now = counted counts (take i items) in
    let below : item.conn < length now = omega (arith, length-counted counts (take i items), within, here) in
    subst (λ (at : ℕ). count_then item.kind count ≡ get_or (counted counts (take (i + 1) items)) at 0) here
    (ap (count_then item.kind) (before ∙ ap (λ (at : ℕ). get_or now at 0) (sym here))
    ∙ sym (ap (λ (all : List ℕ). get_or all item.conn 0) (counted-more counts items i item is lt) ∙ get_or-set_same now item.conn (count_then item.kind (get_or now item.conn 0)) 0 below))

pub count_other : (counts : List ℕ) (items : List Item) (i : ℕ) (item : Item) (conn : ℕ) → item ≡ get_or items i item → i < length items → item.conn ≢ conn →
    get_or (counted counts (take (i + 1) items)) conn 0 ≡ get_or (counted counts (take i items)) conn 0
count_other counts items i item conn is lt other =
    let now = counted counts (take i items) in
    ap (λ (all : List ℕ). get_or all conn 0) (counted-more counts items i item is lt) ∙ get_or-set_other now item.conn conn (count_then item.kind (get_or now item.conn 0)) 0 (λ same. other (sym same))

-- the number of the item at a place
pub number_at-is : (counts : List ℕ) (items : List Item) (place : ℕ) (item : Item) → item ≡ get_or items place item → place < length items → number_at counts items place ≡ get_or (counted counts (take (place + 1) items)) item.conn 0
number_at-is counts items place item is lt =
    ap (λ (found : Option Item). option_map_or (λ (one : Item). get_or (counted counts (take (place + 1) items)) one.conn 0) found 0) (slice_get-get_or items place item lt ∙ ap (λ (one : Item). Some one) (sym is))

pub number_at-past : (counts : List ℕ) (items : List Item) (place : ℕ) (item : Item) → item ≡ get_or items place item → place < length items → length counts ≤ item.conn → number_at counts items place ≡ 0
number_at-past counts items place item is lt past =
    number_at-is counts items place item is lt ∙ get_or_past (counted counts (take (place + 1) items)) item.conn 0 (omega (arith, length-counted counts (take (place + 1) items), past))
