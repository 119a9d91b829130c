-- What the fields of a store say of what it holds.
use Rattle.cow_pages.proofs.Terms.{All, Bool, IsSome, List, None, Some, [], ap, arith, cond, drop, false, get_or, inl, inr, length, map, nat_lt, refl, subst, suc, sym, take, true, zero, ℕ, ◌%◌, ◌*◌, ◌++◌, ◌+◌, ◌/◌, ◌<◌, ◌||◌, ◌∙◌, ◌∷◌, ◌≡◌, or_comm, cases_Bool, cases_lt, false≢true, get_or-map, get_or_past, get_or_read, length-map, All-get_or, All-head, All-tail, cond_some, PAGE, Slot, MAX_FRAMES_PER_PAGE, MAX_PAGES, Agree, IsLawful, IsSpace, Pages, Space, Stands, different, has, held_of, page_of, saved_numbers, slot_at, used_of, is_shared, Counts, IsSlot, IsSound, IsTable, Parts, pages_of, slot_space, space_of, table_numbers}
use Rattle.cow_pages.proofs.Counting.{AreBelow, below_append, has-append, has-get_or, has-is, length-free, places-some}
use Rattle.cow_pages.proofs.Walks.{counted_below, in_use, table_home}
use Rattle.cow_pages.proofs.Frames.{AreFrames, length-contents, run-contents}

pub saved_numbers-is : (pool : List ℕ) (slots : List Slot) → saved_numbers (map (slot_space pool) slots) ≡ table_numbers slots
saved_numbers-is pool [] = refl
saved_numbers-is pool (slot ∷ slots) = elim (cases_Bool slot.saved) [ inl is ↦ rw is (ap (λ xs. slot.table.items ++ xs) (saved_numbers-is pool slots)) | inr is ↦ rw is (saved_numbers-is pool slots) ]

-- the counts of used and held frames
pub used-is : (parts : Parts) → used_of (pages_of parts) ≡ different (parts.live ++ table_numbers parts.slots)
used-is parts = ap (λ xs. different (parts.live ++ xs)) (saved_numbers-is parts.pool parts.slots)

pub held-is : {parts : Parts} → IsSound parts → parts.held ≡ held_of (pages_of parts)
held-is {parts = parts} so = so.accounts.held_count ∙ ap different (sym (saved_numbers-is parts.pool parts.slots))

-- the frames of a table, and those of the live one
pub table_frames : {parts : Parts} {table : List ℕ} (so : IsSound parts) → IsTable parts.pages so.tables.homes table → AreFrames parts.frames parts.pool table
table_frames so is = record { size = so.pool_size; below = λ k less. omega (arith, is.below k (omega (arith, is.size)), so.tables.homes_size) }

pub live_frames : {parts : Parts} → IsSound parts → AreFrames parts.frames parts.pool parts.live
live_frames so = table_frames so so.tables.live_table

-- a saved slot at a place of the tables
pub record HasSlot (parts : Parts) (i : ℕ) (slot : Slot) : Type 0 where
  pub less : i < length parts.slots
  pub is : slot ≡ get_or parts.slots i slot
  pub saved : slot.saved ≡ true

some_saved : (b : Bool) (space : Space) → IsSome (cond b (Some space) None) → b ≡ true
some_saved true space h = refl
some_saved false space h = absurd (false≢true h)

pub slot_within : (pool : List ℕ) (slots : List Slot) (i : ℕ) → IsSome (get_or (map (slot_space pool) slots) i None) → i < length slots
slot_within pool slots i some =
    elim (cases_lt i (length slots)) [ inl less ↦ less | inr past ↦ absurd (false≢true (subst IsSome (get_or_past (map (slot_space pool) slots) i None (omega (arith, length-map slots (slot_space pool)))) some)) ]

-- what a slot is seen as
pub slot_at-is : (pool : List ℕ) (slots : List Slot) (i : ℕ) (slot : Slot) → i < length slots → slot ≡ get_or slots i slot → get_or (map (slot_space pool) slots) i None ≡ slot_space pool slot
slot_at-is pool slots i slot less is = get_or-map (slot_space pool) slots i slot None less ∙ ap (slot_space pool) (sym is)

pub slot_here : {parts : Parts} {store : Pages} {i : ℕ} {slot : Slot} → IsSound parts → pages_of parts ≡ store → IsSome (slot_at store i) → slot ≡ get_or parts.slots i slot → HasSlot parts i slot
slot_here {parts = parts} {i = i} {slot = slot} so seen some is =
    let here : IsSome (slot_at (pages_of parts) i) = subst (λ s. IsSome (slot_at s i)) (sym seen) some in
    let less : i < length parts.slots = slot_within parts.pool parts.slots i here in
    record { less = less; is = is; saved = some_saved slot.saved (space_of parts.pool slot.table.items) (subst IsSome (slot_at-is parts.pool parts.slots i slot less is) here) }

pub slot_is : {parts : Parts} {i : ℕ} {slot : Slot} (so : IsSound parts) → HasSlot parts i slot → IsSlot parts.pages so.tables.homes slot
slot_is {parts = parts} {i = i} {slot = slot} so at = subst (IsSlot parts.pages so.tables.homes) (sym at.is) (All-get_or (IsSlot parts.pages so.tables.homes) parts.slots i slot at.less so.tables.slot_tables)

table_found : {parts : Parts} (so : IsSound parts) (space : Space) (slots : List Slot) (i : ℕ) → i < length slots → get_or (map (slot_space parts.pool) slots) i None ≡ Some space → All (IsSlot parts.pages so.tables.homes) slots → (table : List ℕ) × (IsTable parts.pages so.tables.homes table) × (space ≡ space_of parts.pool table)
table_found so space [] i less e all = absurd (omega arith)
table_found {parts = parts} so space (slot ∷ slots) zero less e all =
    let h = cond_some slot.saved (space_of parts.pool slot.table.items) space e in
    (slot.table.items, (All-head (IsSlot parts.pages so.tables.homes) slot slots all).table h.0, sym h.1)
table_found {parts = parts} so space (slot ∷ slots) (suc i) less e all = table_found so space slots i (omega arith) e (All-tail (IsSlot parts.pages so.tables.homes) slot slots all)

-- the table in which a space stands
table_of : {parts : Parts} (so : IsSound parts) (space : Space) → Stands (pages_of parts) space → (table : List ℕ) × (IsTable parts.pages so.tables.homes table) × (space ≡ space_of parts.pool table)
table_of {parts = parts} so space stands =
    elim stands [
      | inl is ↦ (parts.live, so.tables.live_table, is)
      | inr there ↦ table_found so space parts.slots there.0 (slot_within parts.pool parts.slots there.0 (subst IsSome (sym there.1) refl)) there.1 so.tables.slot_tables
    ]

page_is : {parts : Parts} {table : List ℕ} (so : IsSound parts) (page : ℕ) → IsTable parts.pages so.tables.homes table → page < length table → page_of (space_of parts.pool table) page ≡ take PAGE (drop (PAGE * get_or table page 0 + 0) parts.pool)
page_is so page is less =
    let here : PAGE * page / PAGE ≡ page = omega arith in
    let start : PAGE * page % PAGE ≡ 0 = omega arith in
    rw (here, start) at (run-contents (PAGE * page) PAGE (table_frames so is) (omega arith) (omega arith))

agree_is : {parts : Parts} {table other : List ℕ} (so : IsSound parts) → IsTable parts.pages so.tables.homes table → IsTable parts.pages so.tables.homes other → Agree (space_of parts.pool table) (space_of parts.pool other)
agree_is {parts = parts} so one two = λ page place lp lq e. (table_home one two page place lp lq e, page_is so page one lp ∙ ap (λ n. take PAGE (drop (PAGE * n + 0) parts.pool)) e ∙ sym (page_is so place two lq))

pub use-has : {counts numbers : List ℕ} (live : List ℕ) (n : ℕ) → Counts counts numbers → in_use counts live n ≡ has n (live ++ numbers)
use-has {numbers = numbers} live n so =
    ap (λ b. b || has n live) (ap (nat_lt 0) (so.each n) ∙ sym (has-is n numbers)) ∙ or_comm (has n numbers) (has n live) ∙ sym (has-append n live numbers)

counts_below : {counts numbers : List ℕ} → Counts counts numbers → AreBelow (length counts) numbers
counts_below {counts = counts} {numbers = numbers} so k less = counted_below counts (get_or numbers k 0) (omega (arith, so.each (get_or numbers k 0), places-some (get_or numbers k 0) numbers (has-get_or numbers k less)))

pub used-sum : {parts : Parts} → IsSound parts → length parts.free + used_of (pages_of parts) ≡ parts.frames
used-sum {parts = parts} so =
    let each : (n : ℕ) → n < parts.frames → _ = λ n less. so.stack.each n (omega (arith, so.accounts.counts_size)) ∙ ap (λ b. cond b 0 1) (use-has parts.live n so.accounts.counted) in
    omega (
      arith,
      used-is parts,
      length-free parts.frames parts.free (parts.live ++ table_numbers parts.slots) (subst (λ n. AreBelow n parts.free) so.accounts.counts_size so.stack.below)
          (below_append parts.frames parts.live (table_numbers parts.slots) ((live_frames so).below) (subst (λ n. AreBelow n (table_numbers parts.slots)) so.accounts.counts_size (counts_below so.accounts.counted))) each,
    )

-- what holds of every store
pub lawful : {parts : Parts} {store : Pages} → IsSound parts → pages_of parts ≡ store → IsLawful store
lawful {parts = parts} so is =
    subst IsLawful is record {
      few = so.bounds.few.1;
      enough = so.bounds.enough.1;
      used = omega (arith, used-sum so);
      room = omega (arith, held-is so, so.accounts.room);
      spaces = λ space stands.
          let found = table_of so space stands in
          subst (IsSpace parts.pages parts.frames) (sym found.2) record {
            numbers = found.1.size;
            below = λ page less. omega (arith, found.1.below page less, so.tables.homes_size);
            bytes = length-contents found.0 (table_frames so found.1) ∙ ap (λ n. PAGE * n) found.1.size;
          };
      agree = λ one other stands too.
          let first = table_of so one stands in
          let second = table_of so other too in
          subst (λ s. Agree s other) (sym first.2) (subst (Agree (space_of parts.pool first.0)) (sym second.2) (agree_is so first.1 second.1));
    }

-- whether a page is shared is what its count says
pub shared-is : {parts : Parts} (page : ℕ) → IsSound parts → is_shared (pages_of parts) page ≡ nat_lt 0 (get_or parts.counts (get_or parts.live page 0) 0)
shared-is {parts = parts} page so =
    let n = get_or parts.live page 0 in
    ap (has n) (saved_numbers-is parts.pool parts.slots) ∙ has-is n (table_numbers parts.slots) ∙ ap (nat_lt 0) (sym (so.accounts.counted.each n))

-- the frame of an address's page, as it is read, and whether it is shared
pub frame_read : {parts : Parts} {store : Pages} {at frame : ℕ} → IsSound parts → pages_of parts ≡ store → at < PAGE * store.pages → frame ≡ get_or parts.live (at / PAGE) frame → (frame ≡ get_or parts.live (at / PAGE) 0) × (frame < parts.frames) × (frame < MAX_FRAMES_PER_PAGE * MAX_PAGES)
frame_read {parts = parts} {at = at} {frame = frame} so seen inside read =
    let near : at < PAGE * parts.pages = subst (λ s. at < PAGE * s.pages) (sym seen) inside in
    let page : at / PAGE < length parts.live = omega (arith, so.tables.live_table.size) in
    let is : frame ≡ get_or parts.live (at / PAGE) 0 = get_or_read parts.live (at / PAGE) frame page read 0 in
    let less : frame < parts.frames = omega (arith, (live_frames so).below (at / PAGE) page) in
    (is, less, omega (arith, so.bounds.enough.1, so.bounds.few.1))

pub shared_read : {parts : Parts} {store : Pages} {at frame count : ℕ} → IsSound parts → pages_of parts ≡ store → at < PAGE * store.pages → frame ≡ get_or parts.live (at / PAGE) frame → count ≡ get_or parts.counts frame count → is_shared store (at / PAGE) ≡ nat_lt 0 count
shared_read {parts = parts} {at = at} {frame = frame} {count = count} so seen inside first second =
    let one = frame_read so seen inside first in
    let is : count ≡ get_or parts.counts (get_or parts.live (at / PAGE) 0) 0 = get_or_read parts.counts frame count (omega (arith, one, so.accounts.counts_size)) second 0 ∙ ap (λ n. get_or parts.counts n 0) one.0 in
    subst (λ s. is_shared s (at / PAGE) ≡ nat_lt 0 count) seen (shared-is (at / PAGE) so ∙ ap (nat_lt 0) (sym is))
