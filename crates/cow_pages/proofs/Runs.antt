-- Writes, and several one after the other.
use Rattle.cow_pages.proofs.Terms.{Bool, List, Some, [], ap, arith, cond, drop, false, get_or, inl, inr, length, nat_lt, refl, set, slice_get, subst, suc, sym, take, true, zero, ℕ, ◌%◌, ◌&&◌, ◌*◌, ◌++◌, ◌+◌, ◌/◌, ◌<◌, ◌∙◌, ◌∷◌, ◌≡◌, ◌≤◌, cases_eq, le-ltb, lt-ltb, or_parts, nat_tests, get_or_default, length-append, length-drop, length-set, length-take-le, take_at, slice_get-get_or, PAGE, IsLawful, Pages, different, has, saved_numbers, used_of, NumberAfter, Owns, Writes, copied_pages, is_shared, put_at, reaches, IsSound, Parts, contents, pages_of, table_numbers}
use Rattle.cow_pages.proofs.Counting.{has-append}
use Rattle.cow_pages.proofs.Walks.{table_home}
pub use Rattle.cow_pages.proofs.Slots.{refill}
use Rattle.cow_pages.proofs.Frames.{length-put_at, contents-put_here, contents-put_apart, set-put_at, get_or-contents, length-contents, run-contents}
use Rattle.cow_pages.proofs.Stores.{live_frames, saved_numbers-is, lawful}
use Rattle.cow_pages.proofs.Copying.{slots_same, not-at}

-- a page that was given a free frame is in no slot, and one that kept its frame is in the slots that had it
pub number_shared : (old new : Pages) (page : ℕ) (copied : Bool) → new.slots ≡ old.slots → NumberAfter copied old page (get_or new.live.numbers page 0) → is_shared new page ≡ cond copied false (is_shared old page)
number_shared old new page true slots free =
    let n = get_or new.live.numbers page 0 in
    ap (λ xs. has n (saved_numbers xs)) slots ∙ (or_parts (has n old.live.numbers) (has n (saved_numbers old.slots)) (sym (has-append n old.live.numbers (saved_numbers old.slots)) ∙ free.1)).1
number_shared old new page false slots same = ap (λ xs. has (get_or new.live.numbers page 0) (saved_numbers xs)) slots ∙ ap (λ n. has n (saved_numbers old.slots)) same

-- so a page that has a frame of its own is in none
pub owned-apart : (old new : Pages) (page : ℕ) → Owns old new page → is_shared new page ≡ false
owned-apart old new page so = number_shared old new page (is_shared old page) so.slots so.number ∙ elim (is_shared old page) as (λ b. cond b false b ≡ false) [ true ↦ refl | false ↦ refl ]

-- bytes are written into the pool
pub put_sound : {parts : Parts} {after : List ℕ} → IsSound parts → length after ≡ length parts.pool → IsSound (record parts { pool = after })
put_sound so size = record { bounds = so.bounds; pool_size = size ∙ so.pool_size; tables = so.tables; accounts = so.accounts; reserved_room = so.reserved_room; stack = so.stack }

-- a write within one page reaches that page alone
pub reaches-here : (at count : ℕ) → 0 < count → at % PAGE + count ≤ PAGE → reaches at count (at / PAGE) ≡ true
reaches-here at count some within = grind (arith, nat_tests)

pub reaches-other : (at count page : ℕ) → at % PAGE + count ≤ PAGE → (page ≡ at / PAGE → ⊥) → reaches at count page ≡ false
reaches-other at count page within other = grind (arith, nat_tests)

-- how many pages such a write copies
pub copied_one : (store : Pages) (at count : ℕ) → 0 < count → at % PAGE + count ≤ PAGE → (pages : ℕ) → copied_pages store at count pages ≡ cond (nat_lt (at / PAGE) pages && is_shared store (at / PAGE)) 1 0
copied_one store at count some within zero = sym (ap (λ b. cond (b && is_shared store (at / PAGE)) 1 0) (le-ltb (at / PAGE) 0 (omega arith)))
copied_one store at count some within (suc pages) =
    let fewer = copied_one store at count some within pages in
    elim (cases_eq pages (at / PAGE)) [ inl here ↦ rw (fewer, here, reaches-here at count some within) (grind (arith, nat_tests)) | inr other ↦ rw (fewer, reaches-other at count pages within other) (grind (arith, nat_tests)) ]

-- a page gets a frame of its own, and bytes are written there
pub owned_write : (old mid new : Pages) (at : ℕ) (bytes : List ℕ) → 0 < length bytes → at % PAGE + length bytes ≤ PAGE → at < PAGE * old.pages → Owns old mid (at / PAGE) → new.pages ≡ mid.pages → new.frames ≡ mid.frames → new.slots ≡ mid.slots → new.live.numbers ≡ mid.live.numbers → new.live.bytes ≡ put_at at bytes mid.live.bytes → Writes old new at bytes
owned_write old mid new at bytes some within inside so pages frames slots numbers written =
    let page : at / PAGE < old.pages = omega arith in
    record {
      pages = pages ∙ so.pages;
      frames = frames ∙ so.frames;
      slots = slots ∙ so.slots;
      written = written ∙ ap (put_at at bytes) so.bytes;
      numbers = λ p less.
          subst (λ xs. NumberAfter (reaches at (length bytes) p && is_shared old p) old p (get_or xs p 0)) (sym numbers)
          (elim (cases_eq p (at / PAGE)) [
            | inl here ↦
                subst (λ q. NumberAfter (reaches at (length bytes) q && is_shared old q) old q (get_or mid.live.numbers q 0)) (sym here)
                (subst (λ b. NumberAfter (b && is_shared old (at / PAGE)) old (at / PAGE) (get_or mid.live.numbers (at / PAGE) 0)) (sym (reaches-here at (length bytes) some within)) so.number)
            | inr other ↦
                subst (λ b. NumberAfter (b && is_shared old p) old p (get_or mid.live.numbers p 0)) (sym (reaches-other at (length bytes) p within other)) (so.others p less other)
          ]);
      used =
          (let same : used_of new ≡ used_of mid = ap (λ xs. different (xs ++ saved_numbers new.slots)) numbers ∙ ap (λ xs. different (mid.live.numbers ++ saved_numbers xs)) slots in
          let one : copied_pages old at (length bytes) old.pages ≡ cond (is_shared old (at / PAGE)) 1 0 = copied_one old at (length bytes) some within old.pages ∙ ap (λ b. cond (b && is_shared old (at / PAGE)) 1 0) (lt-ltb (at / PAGE) old.pages page) in
          same ∙ so.used ∙ ap (λ n. used_of old + n) (sym one));
    }

-- a place of the pool is that of an address of the live space
pub record StandsIn (parts : Parts) (at place : ℕ) : Type 0 where
  pub so : IsSound parts
  pub inside : at < PAGE * parts.pages
  pub there : place ≡ PAGE * get_or parts.live (at / PAGE) 0 + at % PAGE

pub stands_in : {parts : Parts} {store : Pages} {at place : ℕ} → IsSound parts → pages_of parts ≡ store → at < PAGE * store.pages → place ≡ PAGE * get_or store.live.numbers (at / PAGE) 0 + at % PAGE → StandsIn parts at place
stands_in {at = at} {place = place} so seen inside there =
    record { so = so; inside = subst (λ s. at < PAGE * s.pages) (sym seen) inside; there = subst (λ s. place ≡ PAGE * get_or s.live.numbers (at / PAGE) 0 + at % PAGE) (sym seen) there }

-- the pool's bytes behind a place, read as those of the live space
pub byte_is : {parts : Parts} {store : Pages} {at place x : ℕ} → StandsIn parts at place → pages_of parts ≡ store → x ≡ get_or parts.pool place x → slice_get store.live.bytes at ≡ Some x
byte_is {parts = parts} {at = at} {place = place} {x = x} s seen read =
    let so = s.so in
    let inside : at < PAGE * length parts.live = omega (arith, so.tables.live_table.size, s.inside) in
    let number : get_or parts.live (at / PAGE) 0 < parts.frames = (live_frames so).below (at / PAGE) (omega arith) in
    subst (λ s. slice_get s.live.bytes at ≡ Some x) seen
    (slice_get-get_or (contents parts.pool parts.live) at 0 (omega (arith, inside, length-contents parts.live (live_frames so)))
    ∙ ap Some (get_or-contents parts.live at (live_frames so) inside ∙ ap (λ n. get_or parts.pool n 0) (sym s.there) ∙ get_or_default parts.pool place 0 x (omega (arith, so.pool_size, s.there)) ∙ sym read))

pub run_is : {parts : Parts} {store : Pages} {at place : ℕ} (count : ℕ) → StandsIn parts at place → pages_of parts ≡ store → at % PAGE + count ≤ PAGE → take count (drop place parts.pool) ≡ take count (drop at store.live.bytes)
run_is {parts = parts} {at = at} {place = place} count s seen within =
    subst (λ s. take count (drop place parts.pool) ≡ take count (drop at s.live.bytes)) seen
    (ap (λ n. take count (drop n parts.pool)) s.there ∙ sym (run-contents at count (live_frames s.so) (omega (arith, s.so.tables.live_table.size, s.inside)) within))

pub part_is : {parts : Parts} {store : Pages} {at place n : ℕ} {whole part : List ℕ} (count : ℕ) → StandsIn parts at place → pages_of parts ≡ store → at % PAGE + count ≤ PAGE → whole ≡ parts.pool → n ≡ count → part ≡ take n (drop place whole) → part ≡ take count (drop at store.live.bytes)
part_is {place = place} count s seen within full long read = read ∙ rw (long, full) (run_is count s seen within)

-- a place of a page that was given a frame of its own
pub record OwnsIn (parts : Parts) (old : Pages) (at place : ℕ) : Type 0 where
  pub owns : Owns old (pages_of parts) (at / PAGE)
  pub stands : StandsIn parts at place

pub owns_in : {parts : Parts} {old mid : Pages} {at place : ℕ} → IsSound parts → pages_of parts ≡ mid → Owns old mid (at / PAGE) → place ≡ PAGE * get_or mid.live.numbers (at / PAGE) 0 + at % PAGE → at < PAGE * old.pages → OwnsIn parts old at place
owns_in {old = old} {at = at} so seen owns there inside =
    record { owns = subst (λ s. Owns old s (at / PAGE)) (sym seen) owns; stands = stands_in so seen (omega (arith, inside, owns.pages)) there }

-- it has room for what is written within its page
pub place_room : {parts : Parts} {at place : ℕ} (count : ℕ) → StandsIn parts at place → at % PAGE + count ≤ PAGE → place + count ≤ length parts.pool
place_room {at = at} count s within = omega (arith, s.so.pool_size, s.there, within, (live_frames s.so).below (at / PAGE) (omega (arith, s.so.tables.live_table.size, s.inside)))

-- the store after bytes were written behind a place of the pool
put_done : {parts : Parts} {old : Pages} {at place : ℕ} {after bytes : List ℕ} → OwnsIn parts old at place → after ≡ put_at place bytes parts.pool → 0 < length bytes → at % PAGE + length bytes ≤ PAGE → Writes old (pages_of (record parts { pool = after })) at bytes
put_done {parts = parts} {old = old} {at = at} {bytes = bytes} o e some within =
    let so = o.stands.so in
    let n = get_or parts.live (at / PAGE) 0 in
    let near : at < PAGE * length parts.live = omega (arith, so.tables.live_table.size, o.stands.inside) in
    let none : has n (table_numbers parts.slots) ≡ false = ap (has n) (sym (saved_numbers-is parts.pool parts.slots)) ∙ owned-apart old (pages_of parts) (at / PAGE) o.owns in
    let pool = put_at (PAGE * n + at % PAGE) bytes parts.pool in
    subst (λ xs. Writes old (pages_of (record parts { pool = xs })) at bytes) (sym (e ∙ ap (λ m. put_at m bytes parts.pool) o.stands.there))
    (owned_write old (pages_of parts) (pages_of (record parts { pool = pool })) at bytes some within (omega (arith, o.stands.inside, o.owns.pages)) o.owns refl refl
    (slots_same n pool so parts.slots so.tables.slot_tables none (λ table under gone. contents-put_apart n (PAGE * n + at % PAGE) bytes under ((live_frames so).below (at / PAGE) (omega arith)) (omega arith) (omega (arith, within)) (not-at n table gone)))
    refl
    (contents-put_here at bytes (live_frames so) (table_home so.tables.live_table so.tables.live_table) near within))

pub used_one : {old new : Pages} {at : ℕ} {bytes : List ℕ} → Writes old new at bytes → 0 < length bytes → at % PAGE + length bytes ≤ PAGE → at < PAGE * old.pages → used_of new ≡ used_of old + cond (is_shared old (at / PAGE)) 1 0
used_one {old = old} {at = at} {bytes = bytes} so some within inside =
    so.used ∙ ap (λ n. used_of old + n) (copied_one old at (length bytes) some within old.pages ∙ ap (λ b. cond (b && is_shared old (at / PAGE)) 1 0) (lt-ltb (at / PAGE) old.pages (omega (arith, inside))))

-- the store after one byte, or several, were written
pub byte_done : {parts : Parts} {old : Pages} {at place : ℕ} (byte : ℕ) → OwnsIn parts old at place → Writes old (pages_of (record parts { pool = set parts.pool place byte })) at (byte ∷ [])
byte_done {parts = parts} {at = at} {place = place} byte o =
    let within : at % PAGE + 1 ≤ PAGE = omega arith in
    put_done o (set-put_at parts.pool place byte (omega (arith, place_room 1 o.stands within))) (omega arith) within

pub byte_lawful : {parts : Parts} (place byte : ℕ) → IsSound parts → IsLawful (pages_of (record parts { pool = set parts.pool place byte }))
byte_lawful {parts = parts} place byte so = lawful (put_sound so (length-set parts.pool place byte)) refl

pub part_done : {parts : Parts} {old : Pages} {at place n : ℕ} {bytes whole written : List ℕ} → OwnsIn parts old at place → 0 < length bytes → at % PAGE + length bytes ≤ PAGE → n ≡ length parts.pool → whole ≡ parts.pool → written ≡ put_at place bytes whole → Writes old (pages_of (record parts { pool = take n (written ++ drop (length written) parts.pool) })) at bytes
part_done {parts = parts} {place = place} {n = n} {bytes = bytes} {written = written} o some within size full put =
    let e : written ≡ put_at place bytes parts.pool = put ∙ ap (put_at place bytes) full in
    put_done o (take_at written (drop (length written) parts.pool) n (ap length e ∙ length-put_at place bytes parts.pool (place_room (length bytes) o.stands within) ∙ sym size) ∙ e) some within

pub part_lawful : {parts : Parts} {n : ℕ} (written : List ℕ) → IsSound parts → n ≡ length parts.pool → IsLawful (pages_of (record parts { pool = take n (written ++ drop (length written) parts.pool) }))
part_lawful {parts = parts} {n = n} written so size =
    let whole = written ++ drop (length written) parts.pool in
    let room : n ≤ length whole = omega (arith, length-append written (drop (length written) parts.pool), length-drop (length written) parts.pool) in
    lawful (put_sound so (length-take-le n whole room ∙ size)) refl

-- the store after a run within a page was copied to one within a page that has a frame of its own
pub copied_done : {parts : Parts} {old : Pages} {from to count source target n : ℕ} {whole written : List ℕ} → OwnsIn parts old to target → StandsIn parts from source → 0 < count → from % PAGE + count ≤ PAGE → to % PAGE + count ≤ PAGE → n ≡ length parts.pool → whole ≡ parts.pool → written ≡ put_at target (take count (drop source whole)) whole
    → Writes old (pages_of (record parts { pool = take n (written ++ drop (length written) parts.pool) })) to (take count (drop from old.live.bytes))
copied_done {parts = parts} {from = from} {count = count} {source = source} {target = target} {whole = whole} o s some within fits size full copied =
    let read : take count (drop source whole) ≡ take count (drop source parts.pool) = ap (λ xs. take count (drop source xs)) full in
    let same = read ∙ run_is count s refl within ∙ ap (λ xs. take count (drop from xs)) o.owns.bytes in
    let long = ap length (sym same ∙ read) ∙ length-take-le count (drop source parts.pool) (omega (arith, length-drop source parts.pool, place_room count s within)) in
    part_done o (omega (arith, long, some)) (omega (arith, long, fits)) size full (copied ∙ ap (λ xs. put_at target xs whole) same)
