-- A page of the live space that moves to a free frame.
use Rattle.cow_pages.proofs.Terms.{All, List, [], ap, arith, cond, drop, false, get_or, inl, inr, length, map, nat_lt, refl, set, subst, sym, take, true, ℕ, ◌*◌, ◌++◌, ◌+◌, ◌<◌, ◌∙◌, ◌∷◌, ◌≡◌, ◌≤◌, ◌⊎◌, cases_Bool, cases_eq, cases_lt, false≢true, ltb-true, or_parts, get_or-set_other, get_or-set_same, get_or_append_left, get_or_push, length-append, length-set, take_at, All-cons, All-head, All-nil, All-tail, PAGE, Slot, Pages, different, has, saved_numbers, used_of, IsFree, NumberAfter, Owns, is_shared, put_at, IsSlot, IsSound, IsStack, IsTable, Parts, contents, pages_of, places, slot_numbers, slot_space, table_numbers}
use Rattle.cow_pages.proofs.Counting.{has-append, has-is, places-append, has-get_or, different-append-lt, places-here, places-set, places-there}
use Rattle.cow_pages.proofs.Walks.{by_count, by_live, in_use, table_put}
use Rattle.cow_pages.proofs.Frames.{AreFrames, copied, length-copied, contents-copied, contents-copied_apart}
use Rattle.cow_pages.proofs.Stores.{held-is, live_frames, saved_numbers-is, table_frames, shared-is, use-has, used-sum}

pub has-set_other : (n : ℕ) (xs : List ℕ) (k y : ℕ) → k < length xs → (get_or xs k 0 ≡ n → ⊥) → (y ≡ n → ⊥) → has n (set xs k y) ≡ has n xs
has-set_other n xs k y less old new =
    let same : places n (set xs k y) ≡ places n xs = omega (arith, places-set n xs k y less, places-there n (get_or xs k 0) [] old, places-there n y [] new) in
    has-is n (set xs k y) ∙ ap (nat_lt 0) same ∙ sym (has-is n xs)

pub has-set_same : (xs : List ℕ) (k y : ℕ) → k < length xs → has y (set xs k y) ≡ true
has-set_same xs k y less = subst (λ n. has n (set xs k y) ≡ true) (get_or-set_same xs k y 0 less) (has-get_or (set xs k y) k (omega (arith, length-set xs k y)))

-- a shared page leaves a free frame
pub free_there : {parts : Parts} {page : ℕ} → IsSound parts → page < parts.pages → is_shared (pages_of parts) page ≡ true → 0 < length parts.free
free_there {parts = parts} {page = page} so less shared =
    let numbers = saved_numbers (map (slot_space parts.pool) parts.slots) in
    let fewer : different (parts.live ++ numbers) < length parts.live + different numbers = different-append-lt parts.live numbers page (omega (arith, so.tables.live_table.size)) shared in
    omega (arith, used-sum so, so.accounts.room, so.tables.live_table.size, fewer, held-is so)

-- the frame on top of the stack is in no table
pub top_below : (counts live rest : List ℕ) (fresh : ℕ) → IsStack counts live (rest ++ fresh ∷ []) → fresh < length counts
top_below counts live rest fresh so =
    let inside : length rest < length (rest ++ fresh ∷ []) = omega (arith, length-append rest (fresh ∷ [])) in
    subst (λ n. n < length counts) (get_or_push rest fresh 0 (length rest) refl) (so.below (length rest) inside)

pub top_unused : (counts live rest : List ℕ) (fresh : ℕ) → IsStack counts live (rest ++ fresh ∷ []) → in_use counts live fresh ≡ false
top_unused counts live rest fresh so =
    let some : 0 < places fresh (rest ++ fresh ∷ []) = omega (arith, places-append fresh rest (fresh ∷ []), places-here fresh []) in
    elim (in_use counts live fresh) as (λ b. 0 < cond b 0 1 → b ≡ false) [ true ↦ λ e. absurd (omega arith) | false ↦ λ e. refl ] (subst (λ n. 0 < n) (so.each fresh (top_below counts live rest fresh so)) some)

-- a list without a number has it at no place
pub not-at : (n : ℕ) (xs : List ℕ) → has n xs ≡ false → (k : ℕ) → k < length xs → get_or xs k 0 ≡ n → ⊥
not-at n xs none k less e = false≢true (sym none ∙ subst (λ m. has m xs ≡ true) e (has-get_or xs k less))

still : (counts live : List ℕ) (page fresh : ℕ) → page < length live → 0 < get_or counts (get_or live page 0) 0 → (n : ℕ) → (fresh ≡ n → ⊥) → in_use counts (set live page fresh) n ≡ in_use counts live n
still counts live page fresh inside counted n other =
    elim (cases_eq (get_or live page 0) n) [ inl old ↦ rw (← old, by_count _ _ counted, by_count _ _ counted) refl | inr apart ↦ rw (has-set_other n live page fresh inside apart other) refl ]

-- the stack without its top, which a page of the live table has now
pub stack_taken : (counts live rest : List ℕ) (page fresh : ℕ) → IsStack counts live (rest ++ fresh ∷ []) → page < length live → 0 < get_or counts (get_or live page 0) 0 → IsStack counts (set live page fresh) rest
stack_taken counts live rest page fresh so inside counted = record {
  below = λ k less. subst (λ n. n < length counts) (get_or_append_left rest (fresh ∷ []) 0 k less) (so.below k (omega (arith, length-append rest (fresh ∷ []))));
  each = λ n less.
      elim (cases_eq fresh n) [
        | inl here ↦
            rw (← here, by_live (get_or counts fresh 0) _ (has-set_same live page fresh inside))
            (let one : places fresh (rest ++ fresh ∷ []) ≡ 1 = rw (top_unused counts live rest fresh so) at (so.each fresh (top_below counts live rest fresh so)) in omega (arith, one, places-append fresh rest (fresh ∷ []), places-here fresh []))
        | inr other ↦ rw (still counts live page fresh inside counted n other, ← so.each n less, places-append n rest (fresh ∷ []), places-there n fresh [] other) (omega arith)
      ];
}

-- a table that hasn't a frame, and the live one that gets it, with a home for it
table_kept : {pages : ℕ} {homes table : List ℕ} (page fresh : ℕ) → IsTable pages homes table → has fresh table ≡ false → IsTable pages (set homes fresh page) table
table_kept {homes = homes} {table = table} page fresh so none = record {
  size = so.size;
  below = λ k less. omega (arith, length-set homes fresh page, so.below k less);
  home = λ k less. get_or-set_other homes fresh (get_or table k 0) page 0 (not-at fresh table none k (omega (arith, so.size))) ∙ so.home k less;
}

table_moved : {pages : ℕ} {homes live : List ℕ} (page fresh : ℕ) → IsTable pages homes live → has fresh live ≡ false → fresh < length homes → IsTable pages (set homes fresh page) (set live page fresh)
table_moved {homes = homes} page fresh so none near = table_put page fresh (table_kept page fresh so none) (omega (arith, length-set homes fresh page)) (get_or-set_same homes fresh page 0 near)

-- a slot's table is part of the numbers of all slots
none_parts : (n : ℕ) (slot : Slot) (slots : List Slot) → has n (table_numbers (slot ∷ slots)) ≡ false → (has n (slot_numbers slot) ≡ false) × (has n (table_numbers slots) ≡ false)
none_parts n slot slots none = or_parts (has n (slot_numbers slot)) (has n (table_numbers slots)) (sym (has-append n (slot_numbers slot) (table_numbers slots)) ∙ none)

first_none : (n : ℕ) (slot : Slot) → has n (slot_numbers slot) ≡ false → slot.saved ≡ true → has n slot.table.items ≡ false
first_none n slot none saved = subst (λ b. has n (cond b slot.table.items []) ≡ false) saved none

pub slots_kept : (pages : ℕ) (homes : List ℕ) (page fresh : ℕ) (slots : List Slot) → All (IsSlot pages homes) slots → has fresh (table_numbers slots) ≡ false → All (IsSlot pages (set homes fresh page)) slots
slots_kept pages homes page fresh [] all none = All-nil (IsSlot pages (set homes fresh page))
slots_kept pages homes page fresh (slot ∷ slots) all none =
    let one : IsSlot pages homes slot = All-head (IsSlot pages homes) slot slots all in
    All-cons (IsSlot pages (set homes fresh page)) slot slots
    record { size = one.size; table = λ saved. table_kept page fresh (one.table saved) (first_none fresh slot (none_parts fresh slot slots none).0 saved) }
    (slots_kept pages homes page fresh slots (All-tail (IsSlot pages homes) slot slots all) (none_parts fresh slot slots none).1)

-- slots whose tables haven't a frame don't change with its bytes
pub slots_same : {parts : Parts} (n : ℕ) (after : List ℕ) (so : IsSound parts) (slots : List Slot) → All (IsSlot parts.pages so.tables.homes) slots → has n (table_numbers slots) ≡ false → ((table : List ℕ) → AreFrames parts.frames parts.pool table → has n table ≡ false → contents after table ≡ contents parts.pool table) → map (slot_space after) slots ≡ map (slot_space parts.pool) slots
slots_same n after so [] all none same = refl
slots_same {parts = parts} n after so (slot ∷ slots) all none same =
    let one : IsSlot parts.pages so.tables.homes slot = All-head (IsSlot parts.pages so.tables.homes) slot slots all in
    let rest : map (slot_space after) slots ≡ map (slot_space parts.pool) slots = slots_same n after so slots (All-tail (IsSlot parts.pages so.tables.homes) slot slots all) (none_parts n slot slots none).1 same in
    let first : slot_space after slot ≡ slot_space parts.pool slot =
    elim (cases_Bool slot.saved) [ inl saved ↦ rw (same slot.table.items (table_frames so (one.table saved)) (first_none n slot (none_parts n slot slots none).0 saved)) refl | inr unsaved ↦ rw unsaved refl ] in
    ap (λ s. s ∷ map (slot_space after) slots) first ∙ ap (λ xs. slot_space parts.pool slot ∷ xs) rest

-- a shared page moves to the frame on top of the stack
pub record Moved (parts : Parts) (page fresh : ℕ) (rest : List ℕ) : Type 0 where
  pub so : IsSound parts
  pub less : page < parts.pages
  pub shared : is_shared (pages_of parts) page ≡ true
  pub top : parts.free ≡ rest ++ fresh ∷ []

pub moved : {parts : Parts} {store : Pages} {page fresh : ℕ} {rest : List ℕ} → IsSound parts → pages_of parts ≡ store → page < store.pages → is_shared store page ≡ true → parts.free ≡ rest ++ fresh ∷ [] → Moved parts page fresh rest
moved {page = page} so seen inside shared top =
    record { so = so; less = subst (λ s. page < s.pages) (sym seen) inside; shared = subst (λ s. is_shared s page ≡ true) (sym seen) shared; top = top }

-- the frames of the page, and that no table has the fresh one
record Fresh (parts : Parts) (page fresh : ℕ) (rest : List ℕ) : Type 0 where
  stack : IsStack parts.counts parts.live (rest ++ fresh ∷ [])
  unused : in_use parts.counts parts.live fresh ≡ false
  unsaved : has fresh (table_numbers parts.slots) ≡ false
  unlive : has fresh parts.live ≡ false
  old : get_or parts.live page 0 < parts.frames
  new : fresh < parts.frames

fresh_is : {parts : Parts} {page fresh : ℕ} {rest : List ℕ} → Moved parts page fresh rest → Fresh parts page fresh rest
fresh_is {parts = parts} {page = page} {fresh = fresh} {rest = rest} m =
    let stack : IsStack parts.counts parts.live (rest ++ fresh ∷ []) = subst (IsStack parts.counts parts.live) m.top m.so.stack in
    let unused : in_use parts.counts parts.live fresh ≡ false = top_unused parts.counts parts.live rest fresh stack in
    let neither = or_parts (nat_lt 0 (get_or parts.counts fresh 0)) (has fresh parts.live) unused in
    record {
      stack = stack;
      unused = unused;
      unsaved = has-is fresh (table_numbers parts.slots) ∙ ap (nat_lt 0) (sym (m.so.accounts.counted.each fresh)) ∙ neither.0;
      unlive = neither.1;
      old = (live_frames m.so).below page (omega (arith, m.so.tables.live_table.size, m.less));
      new = omega (arith, top_below parts.counts parts.live rest fresh stack, m.so.accounts.counts_size);
    }

-- the store after the copy
copy_sound : {parts : Parts} {page fresh : ℕ} {rest : List ℕ} → Moved parts page fresh rest → IsSound (record parts { pool = copied parts.pool (get_or parts.live page 0) fresh; live = set parts.live page fresh; free = rest })
copy_sound {parts = parts} {page = page} {fresh = fresh} {rest = rest} m =
    let so = m.so in
    let f = fresh_is m in
    let counted : 0 < get_or parts.counts (get_or parts.live page 0) 0 = ltb-true 0 (get_or parts.counts (get_or parts.live page 0) 0) (sym (shared-is page so) ∙ m.shared) in
    record {
      bounds = so.bounds;
      pool_size = length-copied parts.frames (get_or parts.live page 0) fresh parts.pool so.pool_size f.old f.new ∙ so.pool_size;
      tables = record {
        numbered = so.tables.numbered;
        homes = set so.tables.homes fresh page;
        homes_size = length-set so.tables.homes fresh page ∙ so.tables.homes_size;
        live_table = table_moved page fresh so.tables.live_table f.unlive (omega (arith, so.tables.homes_size, f.new));
        slot_tables = slots_kept parts.pages so.tables.homes page fresh parts.slots so.tables.slot_tables f.unsaved;
      };
      accounts = so.accounts;
      reserved_room = so.reserved_room;
      stack = stack_taken parts.counts parts.live rest page fresh f.stack (omega (arith, so.tables.live_table.size, m.less)) counted;
    }

-- what it holds
copy_owns : {parts : Parts} {page fresh : ℕ} {rest : List ℕ} → Moved parts page fresh rest → Owns (pages_of parts) (pages_of (record parts { pool = copied parts.pool (get_or parts.live page 0) fresh; live = set parts.live page fresh })) page
copy_owns {parts = parts} {page = page} {fresh = fresh} {rest = rest} m =
    let so = m.so in
    let f = fresh_is m in
    let here : page < length parts.live = omega (arith, so.tables.live_table.size, m.less) in
    let pool = copied parts.pool (get_or parts.live page 0) fresh in
    let more : used_of (pages_of (record parts { pool = pool; live = set parts.live page fresh })) ≡ used_of (pages_of parts) + 1 = omega (arith, used-sum so, used-sum (copy_sound m), ap length m.top, length-append rest (fresh ∷ [])) in
    let free : IsFree (pages_of parts) fresh = (f.new, subst (λ xs. has fresh (parts.live ++ xs) ≡ false) (sym (saved_numbers-is parts.pool parts.slots)) (sym (use-has parts.live fresh so.accounts.counted) ∙ f.unused)) in
    record {
      pages = refl;
      frames = refl;
      slots = slots_same fresh pool so parts.slots so.tables.slot_tables f.unsaved (λ table under gone. contents-copied_apart (get_or parts.live page 0) fresh under f.old f.new (not-at fresh table gone));
      bytes = contents-copied page fresh (live_frames so) here f.new (not-at fresh parts.live f.unlive);
      others = λ place inside other. get_or-set_other parts.live page place fresh 0 other;
      number = subst (λ b. NumberAfter b (pages_of parts) page (get_or (set parts.live page fresh) page 0)) (sym m.shared) (subst (IsFree (pages_of parts)) (sym (get_or-set_same parts.live page fresh 0 here)) free);
      used = more ∙ ap (λ b. used_of (pages_of parts) + cond b 1 0) (sym m.shared);
    }

-- a page that isn't shared stays
pub stay_owns : (store : Pages) (page : ℕ) → is_shared store page ≡ false → Owns store store page
stay_owns store page own =
    let same : used_of store ≡ used_of store + 0 = omega arith in
    record {
      pages = refl;
      frames = refl;
      slots = refl;
      bytes = refl;
      others = λ place inside other. refl;
      number = subst (λ b. NumberAfter b store page (get_or store.live.numbers page 0)) (sym own) refl;
      used = same ∙ ap (λ b. used_of store + cond b 1 0) (sym own);
    }

-- the pool after the copy is the pool with the frame copied
pub moved_pool : {parts : Parts} {page fresh n : ℕ} {rest whole written : List ℕ} (from to : ℕ) → Moved parts page fresh rest → written ≡ put_at to (take PAGE (drop from whole)) whole → whole ≡ parts.pool → from ≡ PAGE * get_or parts.live page 0 → to ≡ PAGE * fresh → n ≡ length parts.pool → take n (written ++ drop (length written) parts.pool) ≡ copied parts.pool (get_or parts.live page 0) fresh
moved_pool {parts = parts} {page = page} {fresh = fresh} {n = n} {written = written} from to m copy full start place whole =
    let f = fresh_is m in
    let e : written ≡ copied parts.pool (get_or parts.live page 0) fresh = rw (← start, ← place, ← full) copy in
    take_at written (drop (length written) parts.pool) n (ap length e ∙ length-copied parts.frames (get_or parts.live page 0) fresh parts.pool m.so.pool_size f.old f.new ∙ sym whole) ∙ e

-- the fields of a store whose shared page has moved, and what it holds
pub moved_sound : {parts : Parts} {page fresh reserve : ℕ} {rest pool : List ℕ} → Moved parts page fresh rest → pool ≡ copied parts.pool (get_or parts.live page 0) fresh → reserve ≡ parts.reserved → IsSound (record parts { pool = pool; live = set parts.live page fresh; free = rest; reserved = reserve })
moved_sound m is room = rw (is, room) (copy_sound m)

pub moved_owns : {parts : Parts} {store : Pages} {page fresh : ℕ} {rest pool : List ℕ} → Moved parts page fresh rest → pool ≡ copied parts.pool (get_or parts.live page 0) fresh → pages_of parts ≡ store → Owns store (pages_of (record parts { pool = pool; live = set parts.live page fresh })) page
moved_owns m is seen = rw (← seen, is) (copy_owns m)

-- the frame that is taken is another one than that of the page
pub moved_apart : {parts : Parts} {page fresh from to : ℕ} {rest : List ℕ} → Moved parts page fresh rest → from ≡ PAGE * get_or parts.live page 0 → to ≡ PAGE * fresh → (from + PAGE ≤ to) ⊎ (to + PAGE ≤ from)
moved_apart {parts = parts} {page = page} {fresh = fresh} m start place =
    elim (cases_lt (get_or parts.live page 0) fresh) [
      | inl below ↦ inl (omega (arith, below, start, place))
      | inr above ↦ elim (cases_lt fresh (get_or parts.live page 0)) [
        | inl more ↦ inr (omega (arith, more, start, place))
        | inr most ↦ absurd (not-at fresh parts.live (fresh_is m).unlive page (omega (arith, m.so.tables.live_table.size, m.less)) (omega (arith, above, most)))
      ]
    ]
