-- What the calls of `save`, `release`, `save_over` and `restore` ask of their parts, and what they leave.
use Rattle.cow_pages.proofs.Terms.{Bool, List, None, Some, [], ap, arith, cond, drop, false, get_or, inl, inr, length, nat_lt, refl, set, subst, sym, take, true, ℕ, ◌++◌, ◌+◌, ◌-◌, ◌<◌, ◌||◌, ◌∙◌, ◌≡◌, ◌≤◌, cases_Bool, false≢true, length-map, Slot, Pages, Space, different, has, slot_at, used_of, CanCount, CanGiveUp, CanUncount, Counts, IsRenewed, IsSlot, IsSound, IsStack, IsTable, Parts, Recounts, pages_of, places, slot_numbers, slot_space, space_of, table_numbers}
use Rattle.cow_pages.proofs.Counting.{has-get_or, places-append, places-le-one, places-none, places-some}
use Rattle.cow_pages.proofs.Walks.{by_live, counts_alike, stack_same, table_home}
use Rattle.cow_pages.proofs.Stores.{HasSlot, slot_at-is, slot_is, used-is, used-sum}
use Rattle.cow_pages.proofs.Slots.{Turning, emptied, live_room, others, refill, saved_slot, slot_in, slot_out, slots_few, turned_counts, turned_held, turned_sound, turning}

-- a table written whole with a list of its length
pub refilled : {n : ℕ} {table part from whole live : List ℕ} → n ≡ length table → length part ≡ length whole → whole ≡ table → part ≡ from → from ≡ live → take n (part ++ drop (length part) table) ≡ live
refilled {n = n} {table = table} {part = part} size same is copy source = refill n table part (same ∙ ap length is ∙ sym size) ∙ copy ∙ source

-- an empty slot has no numbers
none_numbers : (b : Bool) (table : List ℕ) (space : Space) → cond b (Some space) None ≡ None → cond b table [] ≡ []
none_numbers true table space e = cc
none_numbers false table space e = refl

-- what counting the live table asks
pub saving_fits : {parts : Parts} {was table : List ℕ} → IsSound parts → was ≡ parts.counts → table ≡ parts.live → CanCount was table
saving_fits {parts = parts} {was = was} so first second =
    subst (CanCount was) (sym second) (subst (λ xs. CanCount xs parts.live) (sym first) record {
      below = λ k less. omega (arith, so.tables.live_table.below k (omega (arith, so.tables.live_table.size)), so.tables.homes_size, so.accounts.counts_size);
      numbers = table_numbers parts.slots;
      counted = so.accounts.counted;
      few = λ n. omega (arith, slots_few so n, places-le-one n parts.live (table_home so.tables.live_table so.tables.live_table));
    })

-- the sum of the held frames fits
pub saving_sum : {parts : Parts} {was table now : List ℕ} {added : ℕ} → IsSound parts → was ≡ parts.counts → table ≡ parts.live → Recounts was [] now table added 0 → parts.held + added ≤ parts.frames
saving_sum {parts = parts} so first second walk =
    omega (arith, walk.turn (table_numbers parts.slots) (subst (λ xs. Counts xs (table_numbers parts.slots)) (sym first) so.accounts.counted), ap (λ xs. different (xs ++ table_numbers parts.slots)) second, so.accounts.held_count, used-is parts, used-sum so)

-- the live table in a slot
live_slot : {parts : Parts} (next : Slot) (so : IsSound parts) → next.table.items ≡ parts.live → IsSlot parts.pages so.tables.homes next
live_slot {parts = parts} next so table = record { size = ap length table ∙ so.tables.live_table.size; table = λ _. subst (IsTable parts.pages so.tables.homes) (sym table) so.tables.live_table }

none_here : {store : Pages} {i : ℕ} {slot : Slot} (parts : Parts) → pages_of parts ≡ store → slot_at store i ≡ None → i < length parts.slots → slot ≡ get_or parts.slots i slot → slot_numbers slot ≡ []
none_here {i = i} {slot = slot} parts seen empty less is =
    none_numbers slot.saved slot.table.items (space_of parts.pool slot.table.items) (sym (slot_at-is parts.pool parts.slots i slot less is) ∙ subst (λ s. slot_at s i ≡ None) (sym seen) empty)

pub saving : {parts : Parts} {store : Pages} {i added n : ℕ} {was table now : List ℕ} {slot : Slot} (next : Slot) → IsSound parts → pages_of parts ≡ store → i < length store.slots → slot_at store i ≡ None → slot ≡ get_or parts.slots i slot → was ≡ parts.counts → length now ≡ length was → n ≡ length parts.counts → table ≡ parts.live → Recounts was [] now table added 0 → next.saved ≡ true → next.table.items ≡ parts.live
    → Turning parts i added 0 (take n (now ++ drop (length now) parts.counts)) next
saving {parts = parts} {i = i} next so seen there empty is first size whole second walk saved same =
    let less : i < length parts.slots = subst (λ k. i < k) (length-map parts.slots (slot_space parts.pool)) (subst (λ s. i < length s.slots) (sym seen) there) in
    turning next so less is (live_slot next so same) first size whole (sym (none_here parts seen empty less is)) (second ∙ sym (saved_slot next saved ∙ same)) walk

-- the fields after `save`
pub saving_sound : {parts : Parts} {store : Pages} {i added : ℕ} {after : List ℕ} {next : Slot} → Turning parts i added 0 after next → slot_numbers next ≡ parts.live → pages_of parts ≡ store → slot_at store i ≡ None → used_of store + store.pages ≤ store.frames
    → IsSound (record parts { held = parts.held + added; counts = after; slots = set parts.slots i next })
saving_sound {parts = parts} {i = i} {added = added} {after = after} {next = next} t is seen empty room =
    turned_sound (parts.held + added) parts.reserved t
    (stack_same t.so.stack t.size
    (λ n under.
    elim (cases_Bool (has n parts.live)) [
      | inl live ↦ by_live _ _ live ∙ sym (by_live _ _ live)
      | inr gone ↦
          (let same : get_or after n 0 ≡ get_or parts.counts n 0 =
          omega (
            arith,
            (turned_counts t).each n,
            t.so.accounts.counted.each n,
            slot_in parts.slots i t.slot next t.less t.is n,
            slot_out parts.slots i t.slot t.less t.is n,
            ap (places n) is,
            ap (places n) (none_here parts seen empty t.less t.is),
            places-none n parts.live gone,
            places-append n (slot_numbers next) (others parts.slots i t.slot),
            places-append n (slot_numbers t.slot) (others parts.slots i t.slot),
          ) in
          ap (λ m. nat_lt 0 m || has n parts.live) same)
    ]))
    refl (omega arith) (omega (arith, turned_held t, live_room t is seen room))

-- what is used stays, since no frame is taken or given back
pub saving_used : {parts : Parts} {store : Pages} {held : ℕ} {after : List ℕ} (i : ℕ) (next : Slot) → IsSound parts → IsSound (record parts { held = held; counts = after; slots = set parts.slots i next }) → pages_of parts ≡ store → used_of (pages_of (record parts { slots = set parts.slots i next })) ≡ used_of store
saving_used i next so new seen = omega (arith, used-sum so, used-sum new, ap used_of seen)

-- the live table and the free frames fit the counts
abbrev live_gives : {parts : Parts} → IsSound parts → CanGiveUp parts.counts parts.live parts.free
live_gives {parts = parts} so = record {
  homes = so.tables.homes;
  many = so.tables.homes_size ∙ sym so.accounts.counts_size;
  live_is = subst (λ n. IsTable n so.tables.homes parts.live) (sym so.tables.live_table.size) so.tables.live_table;
  stack = so.stack;
}

-- the table of a saved slot is counted, beside those of the others
abbrev counted_slot : {parts : Parts} {i : ℕ} {slot : Slot} (so : IsSound parts) → HasSlot parts i slot → CanUncount parts.counts slot.table.items parts.live parts.free
counted_slot {parts = parts} {i = i} {slot = slot} so at = record {
  gives = live_gives so;
  table_is = subst (λ n. IsTable n so.tables.homes slot.table.items) (sym so.tables.live_table.size) ((slot_is so at).table at.saved);
  numbers = others parts.slots i slot;
  counted = counts_alike so.accounts.counted (λ n. slot_out parts.slots i slot at.less at.is n ∙ ap (λ xs. places n (xs ++ others parts.slots i slot)) (saved_slot slot at.saved));
}

-- what the walks of `release`, `save_over` and `restore` ask
pub releasing_fits : {parts : Parts} {i : ℕ} {was table line : List ℕ} {slot : Slot} → IsSound parts → HasSlot parts i slot → was ≡ parts.counts → table ≡ slot.table.items → line ≡ parts.live → CanUncount was table line parts.free
releasing_fits so at first second third = rw (first, second, third) (counted_slot so at)

pub over_fits : {parts : Parts} {i : ℕ} {was table line : List ℕ} {slot : Slot} → IsSound parts → HasSlot parts i slot → was ≡ parts.counts → table ≡ slot.table.items → line ≡ parts.live → IsRenewed was table line parts.free
over_fits {parts = parts} {i = i} {slot = slot} so at first second third = rw (first, second, third) record {
  fits = counted_slot so at;
  few = λ n. omega (arith, slots_few so n, slot_out parts.slots i slot at.less at.is n, places-append n (slot_numbers slot) (others parts.slots i slot));
}

pub restoring_fits : {parts : Parts} {was line : List ℕ} → IsSound parts → was ≡ parts.counts → line ≡ parts.live → CanGiveUp was line parts.free
restoring_fits so first second = rw (first, second) (live_gives so)

pub releasing : {parts : Parts} {i removed n : ℕ} {was table now : List ℕ} {slot : Slot} → IsSound parts → HasSlot parts i slot → was ≡ parts.counts → length now ≡ length was → n ≡ length parts.counts → table ≡ slot.table.items → Recounts was table now [] 0 removed → Turning parts i 0 removed (take n (now ++ drop (length now) parts.counts)) (emptied slot)
releasing {slot = slot} so at first size whole second walk =
    turning (emptied slot) so at.less at.is record { size = (slot_is so at).size; table = λ saved. absurd (false≢true saved) } first size whole (second ∙ sym (saved_slot slot at.saved)) refl walk

pub saving_over : {parts : Parts} {i added removed n : ℕ} {was table now line : List ℕ} {slot : Slot} (next : Slot) → IsSound parts → HasSlot parts i slot → was ≡ parts.counts → length now ≡ length was → n ≡ length parts.counts → table ≡ slot.table.items → line ≡ parts.live → Recounts was table now line added removed → next.saved ≡ slot.saved → next.table.items ≡ parts.live
    → Turning parts i added removed (take n (now ++ drop (length now) parts.counts)) next
saving_over {slot = slot} next so at first size whole second third walk like same =
    turning next so at.less at.is (live_slot next so same) first size whole (second ∙ sym (saved_slot slot at.saved)) (third ∙ sym (saved_slot next (like ∙ at.saved) ∙ same)) walk

-- the stack that a walk leaves
pub refilled_stack : {parts : Parts} {n : ℕ} {was now line left : List ℕ} → IsSound parts → was ≡ parts.counts → length now ≡ length was → n ≡ length parts.counts → line ≡ parts.live → IsStack now line left → IsStack (take n (now ++ drop (length now) parts.counts)) parts.live left
refilled_stack {parts = parts} {n = n} {now = now} {left = left} so first size whole third stack =
    subst (λ xs. IsStack xs parts.live left) (sym (refill n parts.counts now (size ∙ ap length first ∙ sym whole))) (subst (λ xs. IsStack now xs left) third stack)

-- the fields after `release`, and after `save_over`
pub releasing_sound : {parts : Parts} {i removed reserve : ℕ} {after left : List ℕ} {next : Slot} → Turning parts i 0 removed after next → IsStack after parts.live left → reserve ≡ parts.reserved
    → IsSound (record parts { held = parts.held - removed; counts = after; free = left; reserved = reserve; slots = set parts.slots i next })
releasing_sound {parts = parts} {removed = removed} {reserve = reserve} t stack same = turned_sound (parts.held - removed) reserve t stack same (omega (arith, turned_held t)) (omega (arith, t.so.accounts.room))

pub over_sound : {parts : Parts} {store : Pages} {i added removed reserve : ℕ} {after left : List ℕ} {next : Slot} → Turning parts i added removed after next → slot_numbers next ≡ parts.live → IsStack after parts.live left → reserve ≡ parts.reserved → pages_of parts ≡ store → used_of store + store.pages ≤ store.frames
    → IsSound (record parts { held = parts.held + added - removed; counts = after; free = left; reserved = reserve; slots = set parts.slots i next })
over_sound {parts = parts} {added = added} {removed = removed} {reserve = reserve} t is stack same seen room =
    turned_sound (parts.held + added - removed) reserve t stack same (omega (arith, turned_held t)) (omega (arith, turned_held t, live_room t is seen room))

-- a slot that holds the live space
pub live_space : {parts : Parts} {store : Pages} (next : Slot) → IsSound parts → next.saved ≡ true → next.table.items ≡ parts.live → pages_of parts ≡ store → slot_space parts.pool next ≡ Some store.live
live_space {parts = parts} next so saved table seen =
    ap (λ b. cond b (Some (space_of parts.pool next.table.items)) None) saved ∙ ap (λ xs. Some (space_of parts.pool xs)) table ∙ ap (λ (s : Pages). Some s.live) seen

-- the fields after `restore`
pub restoring : {parts : Parts} {i reserve : ℕ} {was written left : List ℕ} {slot : Slot} → IsSound parts → HasSlot parts i slot → was ≡ parts.counts → written ≡ slot.table.items → ((other : List ℕ) → ((k : ℕ) → k < length other → 0 < get_or was (get_or other k 0) 0) → IsStack was other left) → reserve ≡ parts.reserved → IsSound (record parts { live = written; free = left; reserved = reserve })
restoring {parts = parts} {i = i} {was = was} {written = written} {left = left} {slot = slot} so at first same giving room =
    let used : (k : ℕ) → k < length slot.table.items → 0 < get_or was (get_or slot.table.items k 0) 0 =
    λ k inside.
    let n = get_or slot.table.items k 0 in
    omega (arith, ap (λ xs. get_or xs n 0) first, so.accounts.counted.each n, slot_out parts.slots i slot at.less at.is n, ap (places n) (saved_slot slot at.saved), places-append n (slot_numbers slot) (others parts.slots i slot), places-some n slot.table.items (has-get_or slot.table.items k inside)) in
    record {
      bounds = so.bounds;
      pool_size = so.pool_size;
      tables = record { numbered = so.tables.numbered; homes = so.tables.homes; homes_size = so.tables.homes_size; live_table = subst (IsTable parts.pages so.tables.homes) (sym same) ((slot_is so at).table at.saved); slot_tables = so.tables.slot_tables };
      accounts = so.accounts;
      reserved_room = omega (arith, so.reserved_room, room);
      stack = subst (λ xs. IsStack parts.counts xs left) (sym same) (subst (λ xs. IsStack xs slot.table.items left) first (giving slot.table.items used));
    }
