-- The numbers of all slots, and what a change of one slot leaves of a store.
use Rattle.cow_pages.proofs.Terms.{All, List, Option, [], ap, arith, cond, drop, false, get_or, inl, inr, length, map, set, subst, suc, sym, take, true, zero, ℕ, ◌++◌, ◌+◌, ◌<◌, ◌∙◌, ◌∷◌, ◌≡◌, ◌≤◌, cases_Bool, common_steps, length-set, map-set, All-head, All-set, All-tail, Slot, MAX_SLOTS, Pages, Space, different, held_of, used_of, Counts, IsSlot, IsSound, IsStack, Parts, Recounts, pages_of, places, slot_numbers, slot_space, table_numbers}
use Rattle.cow_pages.proofs.Counting.{Alike, different-alike, different-le, has-some, places-append, places-le-one, places-some}
use Rattle.cow_pages.proofs.Walks.{counts_alike, table_home}
use Rattle.cow_pages.proofs.Stores.{saved_numbers-is, used-is}

-- a slot in which nothing is saved, with its table
abbrev pub emptied : Slot → Slot
emptied slot = record slot { saved = false }

-- the numbers of the other slots
abbrev pub others : List Slot → ℕ → Slot → List ℕ
others slots i slot = table_numbers (set slots i (emptied slot))

-- another slot at a place
places-slots : (n : ℕ) (slots : List Slot) (i : ℕ) (slot next : Slot) → i < length slots → slot ≡ get_or slots i slot → places n (table_numbers (set slots i next)) + places n (slot_numbers slot) ≡ places n (table_numbers slots) + places n (slot_numbers next)
places-slots n [] i slot next less is = absurd (omega arith)
places-slots n (first ∷ slots) zero slot next less is =
    omega (arith, ap (λ s. places n (slot_numbers s)) is, places-append n (slot_numbers next) (table_numbers slots), places-append n (slot_numbers first) (table_numbers slots))
places-slots n (first ∷ slots) (suc i) slot next less is =
    omega (arith, places-slots n slots i slot next (omega arith) is, places-append n (slot_numbers first) (table_numbers (set slots i next)), places-append n (slot_numbers first) (table_numbers slots))

pub slot_out : (slots : List Slot) (i : ℕ) (slot : Slot) → i < length slots → slot ≡ get_or slots i slot → Alike (table_numbers slots) (slot_numbers slot ++ others slots i slot)
slot_out slots i slot less is n = omega (arith, places-slots n slots i slot (emptied slot) less is, places-append n (slot_numbers slot) (others slots i slot))

pub slot_in : (slots : List Slot) (i : ℕ) (slot next : Slot) → i < length slots → slot ≡ get_or slots i slot → Alike (slot_numbers next ++ others slots i slot) (table_numbers (set slots i next))
slot_in slots i slot next less is n =
    omega (arith, slot_out slots i slot less is n, places-slots n slots i slot next less is, places-append n (slot_numbers next) (others slots i slot), places-append n (slot_numbers slot) (others slots i slot))

-- a frame stands in at most as many slots as there are
places-slots_le : (pages n : ℕ) (homes : List ℕ) (slots : List Slot) → All (IsSlot pages homes) slots → places n (table_numbers slots) ≤ length slots
places-slots_le pages n homes [] all = omega arith
places-slots_le pages n homes (slot ∷ slots) all =
    let one : IsSlot pages homes slot = All-head (IsSlot pages homes) slot slots all in
    let rest : places n (table_numbers slots) ≤ length slots = places-slots_le pages n homes slots (All-tail (IsSlot pages homes) slot slots all) in
    let first : places n (slot_numbers slot) ≤ 1 =
    elim (cases_Bool slot.saved) [ inl saved ↦ rw saved (places-le-one n slot.table.items (table_home (one.table saved) (one.table saved))) | inr unsaved ↦ rw unsaved (omega arith) ] in
    omega (arith, places-append n (slot_numbers slot) (table_numbers slots))

pub slots_few : {parts : Parts} → IsSound parts → (n : ℕ) → places n (table_numbers parts.slots) ≤ MAX_SLOTS
slots_few {parts = parts} so n = omega (arith, places-slots_le parts.pages n so.tables.homes parts.slots so.tables.slot_tables, so.tables.numbered.1)

-- a saved slot with this table, and one in which nothing is saved
pub saved_slot : (slot : Slot) → slot.saved ≡ true → slot_numbers slot ≡ slot.table.items
saved_slot slot saved = ap (λ b. cond b slot.table.items []) saved

-- how a store is seen with another slot
pub slot_seen : {parts : Parts} {store : Pages} {space : Option Space} (i : ℕ) (next : Slot) → IsSound parts → pages_of parts ≡ store → slot_space parts.pool next ≡ space → pages_of (record parts { slots = set parts.slots i next }) ≡ record store { slots = set store.slots i space }
slot_seen {parts = parts} {space = space} i next so seen is =
    ap (λ xs. record (pages_of parts) { slots = xs }) (map-set (slot_space parts.pool) parts.slots i next ∙ ap (set (map (slot_space parts.pool) parts.slots) i) is)
    ∙ ap (λ (s : Pages). record s { slots = set s.slots i space }) seen

-- a slot becomes another one, and the counts those of its numbers
pub record Turning (parts : Parts) (i added removed : ℕ) (after : List ℕ) (next : Slot) : Type 0 where
  pub so : IsSound parts
  pub slot : Slot
  pub less : i < length parts.slots
  pub is : slot ≡ get_or parts.slots i slot
  pub next_is : IsSlot parts.pages so.tables.homes next
  pub size : length after ≡ length parts.counts
  pub walk : Recounts parts.counts (slot_numbers slot) after (slot_numbers next) added removed

-- a list of the same length written whole, as a vector's slice is
pub refill : (n : ℕ) (xs ys : List ℕ) → length ys ≡ n → take n (ys ++ drop (length ys) xs) ≡ ys
refill n xs ys size = grind (arith, common_steps)

pub turning : {parts : Parts} {i added removed n : ℕ} {was table now line : List ℕ} {slot : Slot} (next : Slot) (so : IsSound parts) → i < length parts.slots → slot ≡ get_or parts.slots i slot → IsSlot parts.pages so.tables.homes next → was ≡ parts.counts → length now ≡ length was → n ≡ length parts.counts → table ≡ slot_numbers slot → line ≡ slot_numbers next
    → Recounts was table now line added removed → Turning parts i added removed (take n (now ++ drop (length now) parts.counts)) next
turning {parts = parts} {added = added} {removed = removed} {n = n} {was = was} {table = table} {now = now} {slot = slot} next so less is next_is first size whole second third walk =
    let e : take n (now ++ drop (length now) parts.counts) ≡ now = refill n parts.counts now (size ∙ ap length first ∙ sym whole) in
    record {
      so = so;
      slot = slot;
      less = less;
      is = is;
      next_is = next_is;
      size = ap length e ∙ size ∙ ap length first;
      walk = subst (λ xs. Recounts parts.counts (slot_numbers slot) xs (slot_numbers next) added removed) (sym e)
          (subst (λ xs. Recounts xs (slot_numbers slot) now (slot_numbers next) added removed) first
          (subst (λ xs. Recounts was xs now (slot_numbers next) added removed) second (subst (λ xs. Recounts was table now xs added removed) third walk)));
    }

-- the counts then, and how many frames the slots have
pub turned_counts : {parts : Parts} {i added removed : ℕ} {after : List ℕ} {next : Slot} → Turning parts i added removed after next → Counts after (table_numbers (set parts.slots i next))
turned_counts {parts = parts} {i = i} {next = next} t =
    counts_alike (t.walk.counted (others parts.slots i t.slot) (counts_alike t.so.accounts.counted (slot_out parts.slots i t.slot t.less t.is))) (slot_in parts.slots i t.slot next t.less t.is)

pub turned_held : {parts : Parts} {i added removed : ℕ} {after : List ℕ} {next : Slot} → Turning parts i added removed after next → added + parts.held ≡ removed + different (table_numbers (set parts.slots i next))
turned_held {parts = parts} {i = i} {next = next} t =
    omega (arith, t.walk.turn (others parts.slots i t.slot) (counts_alike t.so.accounts.counted (slot_out parts.slots i t.slot t.less t.is)), t.so.accounts.held_count, different-alike _ _ (slot_out parts.slots i t.slot t.less t.is), different-alike _ _ (slot_in parts.slots i t.slot next t.less t.is))

-- the store then
pub turned_sound : {parts : Parts} {i added removed : ℕ} {after left : List ℕ} {next : Slot} (held reserve : ℕ) → Turning parts i added removed after next → IsStack after parts.live left → reserve ≡ parts.reserved → held + removed ≡ parts.held + added → held + parts.pages ≤ parts.frames
    → IsSound (record parts { held = held; counts = after; free = left; reserved = reserve; slots = set parts.slots i next })
turned_sound {parts = parts} {i = i} {next = next} held reserve t stack same sum room =
    let so = t.so in
    record {
      bounds = so.bounds;
      pool_size = so.pool_size;
      tables = record {
        numbered = (omega (arith, length-set parts.slots i next, so.tables.numbered.0), omega (arith, length-set parts.slots i next, so.tables.numbered.1));
        homes = so.tables.homes;
        homes_size = so.tables.homes_size;
        live_table = so.tables.live_table;
        slot_tables = All-set (IsSlot parts.pages so.tables.homes) parts.slots i next t.next_is so.tables.slot_tables;
      };
      accounts = record { counts_size = t.size ∙ so.accounts.counts_size; counted = turned_counts t; held_count = omega (arith, turned_held t, sum); room = room };
      reserved_room = omega (arith, so.reserved_room, same);
      stack = stack;
    }

-- the live table in a slot adds nothing to the live space
pub live_in : {parts : Parts} {i added removed : ℕ} {after : List ℕ} {next : Slot} → Turning parts i added removed after next → slot_numbers next ≡ parts.live → different (parts.live ++ table_numbers (set parts.slots i next)) ≡ different (table_numbers (set parts.slots i next))
live_in {parts = parts} {i = i} {next = next} t is =
    let now = table_numbers (set parts.slots i next) in
    let live : (n : ℕ) → places n now ≡ places n parts.live + places n (others parts.slots i t.slot) =
    λ n. omega (arith, slot_in parts.slots i t.slot next t.less t.is n, ap (places n) is, places-append n (slot_numbers next) (others parts.slots i t.slot)) in
    let more : different (parts.live ++ now) ≤ different now = different-le (parts.live ++ now) now (λ n has_it. has-some n now (omega (arith, live n, places-some n (parts.live ++ now) has_it, places-append n parts.live now))) in
    let less : different now ≤ different (parts.live ++ now) = different-le now (parts.live ++ now) (λ n has_it. has-some n (parts.live ++ now) (omega (arith, places-some n now has_it, places-append n parts.live now))) in
    omega arith

-- so it holds the frames that are used, and there is room for them
pub live_held : {parts : Parts} {i added removed : ℕ} {after : List ℕ} {next : Slot} → Turning parts i added removed after next → slot_numbers next ≡ parts.live → held_of (pages_of (record parts { slots = set parts.slots i next })) ≡ used_of (pages_of (record parts { slots = set parts.slots i next }))
live_held {parts = parts} {i = i} {next = next} t is = ap different (saved_numbers-is parts.pool (set parts.slots i next)) ∙ sym (live_in t is) ∙ sym (used-is (record parts { slots = set parts.slots i next }))

pub live_room : {parts : Parts} {store : Pages} {i added removed : ℕ} {after : List ℕ} {next : Slot} → Turning parts i added removed after next → slot_numbers next ≡ parts.live → pages_of parts ≡ store → used_of store + store.pages ≤ store.frames → different (table_numbers (set parts.slots i next)) + parts.pages ≤ parts.frames
live_room {parts = parts} {i = i} {next = next} t is seen room =
    let was = table_numbers parts.slots in
    let now = table_numbers (set parts.slots i next) in
    let fewer : different (parts.live ++ now) ≤ different (parts.live ++ was) =
    different-le (parts.live ++ now) (parts.live ++ was)
    (λ n has_it.
    has-some n (parts.live ++ was)
    (omega (arith, places-some n (parts.live ++ now) has_it, places-append n parts.live now, places-append n parts.live was, slot_in parts.slots i t.slot next t.less t.is n, slot_out parts.slots i t.slot t.less t.is n, ap (places n) is, places-append n (slot_numbers next) (others parts.slots i t.slot), places-append n (slot_numbers t.slot) (others parts.slots i t.slot)))) in
    let old : used_of (pages_of parts) + parts.pages ≤ parts.frames = subst (λ s. used_of s + s.pages ≤ s.frames) (sym seen) room in
    omega (arith, old, fewer, live_in t is, used-is parts)
