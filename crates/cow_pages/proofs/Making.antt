-- A store that was just made.
use Rattle.cow_pages.proofs.Terms.{All, List, None, Some, [], ap, arith, cond, false, get_or, inl, inr, length, map, nat_lt, refl, replicate, subst, sym, true, ℕ, ◌%◌, ◌*◌, ◌++◌, ◌+◌, ◌-◌, ◌/◌, ◌<◌, ◌||◌, ◌∙◌, ◌∷◌, ◌≡◌, ◌≤◌, cases_lt, false≢true, common_steps, same_number_lists, get_or_append_left, length-append, length-replicate, All-head, All-nil, All-push, All-tail, All-weaker, PAGE, Slot, MAX_FRAMES_PER_PAGE, MAX_PAGES, MAX_SLOTS, IsMade, different, has, AreBlank, Counts, IsRow, IsSlot, IsSound, IsStack, Parts, contents, pages_of, places, slot_space, space_of, table_numbers}
use Rattle.cow_pages.proofs.Counting.{has-get_or, has-nowhere, places-none, places-some, places-le-one}
use Rattle.cow_pages.proofs.Frames.{get_or-contents, length-contents}
use Rattle.cow_pages.proofs.Stores.{live_frames, used-sum}

-- nothing is saved in any slot
abbrev pub IsBlank : ℕ → Slot → Type 0
IsBlank pages slot = (slot.saved ≡ false) × (length slot.table.items ≡ pages)

blank_numbers : (pages : ℕ) (slots : List Slot) → All (IsBlank pages) slots → table_numbers slots ≡ []
blank_numbers pages [] all = refl
blank_numbers pages (slot ∷ slots) all =
    let one : IsBlank pages slot = All-head (IsBlank pages) slot slots all in
    ap (λ b. cond b slot.table.items [] ++ table_numbers slots) one.0 ∙ blank_numbers pages slots (All-tail (IsBlank pages) slot slots all)

blank_seen : (pages : ℕ) (pool : List ℕ) (slots : List Slot) → All (IsBlank pages) slots → map (slot_space pool) slots ≡ replicate (length slots) None
blank_seen pages pool [] all = refl
blank_seen pages pool (slot ∷ slots) all =
    let one : IsBlank pages slot = All-head (IsBlank pages) slot slots all in
    ap (λ b. cond b (Some (space_of pool slot.table.items)) None ∷ map (slot_space pool) slots) one.0
    ∙ ap (λ xs. None ∷ xs) (blank_seen pages pool slots (All-tail (IsBlank pages) slot slots all))

pub blank_none : (pages : ℕ) → AreBlank 0 pages []
blank_none pages = record { size = refl; each = All-nil (IsBlank pages) }

pub blank_more : (count pages : ℕ) (slots : List Slot) (slot : Slot) → AreBlank count pages slots → slot.saved ≡ false → length slot.table.items ≡ pages → AreBlank (count + 1) pages (slots ++ slot ∷ [])
blank_more count pages slots slot so unsaved size = record {
  size = omega (arith, length-append slots (slot ∷ []), so.size);
  each = All-push (IsBlank pages) slots slot so.each (unsaved, size);
}

get_or-zeros : (size k : ℕ) → get_or (replicate {A = ℕ} size 0) k 0 ≡ 0
get_or-zeros size k = grind (arith, common_steps)

row_places : (pages frames : ℕ) (live free : List ℕ) (n : ℕ) → IsRow 0 pages live → IsRow pages frames free → pages ≤ frames → n < frames → places n free ≡ cond (has n live) 0 1
row_places pages frames live free n low high less under =
    let once : places n free ≤ 1 = places-le-one n free (λ k j lk lj e. omega (arith, high.each k lk, high.each j lj, e)) in
    elim (cases_lt n pages) [
      | inl inside ↦
          (let number : get_or live n 0 ≡ n = omega (arith, low.each n (omega (arith, low.size))) in
          let none : places n free ≡ 0 = places-none n free (has-nowhere n free (λ k near e. absurd (omega (arith, high.each k near, e)))) in
          rw (none, subst (λ m. has m live ≡ true) number (has-get_or live n (omega (arith, low.size)))) refl)
      | inr past ↦
          (let there : n - pages < length free = omega (arith, high.size) in
          let number : get_or free (n - pages) 0 ≡ n = omega (arith, high.each (n - pages) there) in
          let some : 0 < places n free = places-some n free (subst (λ m. has m free ≡ true) number (has-get_or free (n - pages) there)) in
          rw (has-nowhere n live (λ k near e. absurd (omega (arith, low.each k near, low.size, e)))) (omega arith))
    ]

first_stack : (pages frames : ℕ) (live free counts : List ℕ) → IsRow 0 pages live → IsRow pages frames free → pages ≤ frames → counts ≡ replicate frames 0 → IsStack counts live free
first_stack pages frames live free counts low high less is =
    let size : length counts ≡ frames = ap length is ∙ length-replicate frames 0 in
    record {
      below = λ k inside. omega (arith, high.each k inside, high.size, size);
      each = λ n under.
          let zero_count : nat_lt 0 (get_or counts n 0) ≡ false = ap (λ xs. nat_lt 0 (get_or xs n 0)) is ∙ ap (nat_lt 0) (get_or-zeros frames n) in
          row_places pages frames live free n low high less (omega (arith, size)) ∙ ap (λ b. cond (b || has n live) 0 1) (sym zero_count);
    }

pub made_sound : {parts : Parts} {count : ℕ} → (1 ≤ parts.pages) × (parts.pages ≤ MAX_PAGES) → (1 ≤ count) × (count ≤ MAX_SLOTS) → (2 * parts.pages ≤ parts.frames) × (parts.frames ≤ MAX_FRAMES_PER_PAGE * parts.pages) → parts.held ≡ 0 → parts.pool ≡ replicate (parts.frames * PAGE) 0 → IsRow 0 parts.pages parts.live → parts.counts ≡ replicate parts.frames 0 → IsRow parts.pages parts.frames parts.free → parts.frames ≤ parts.reserved → AreBlank count parts.pages parts.slots
    → IsSound parts
made_sound {parts = parts} few numbered enough empty bytes low zeros high room blank =
    let none : table_numbers parts.slots ≡ [] = blank_numbers parts.pages parts.slots blank.each in
    let size : length parts.counts ≡ parts.frames = ap length zeros ∙ length-replicate parts.frames 0 in
    let rest = replicate {A = ℕ} (parts.frames - parts.pages) 0 in
    let many : length (parts.live ++ rest) ≡ parts.frames = omega (arith, length-append parts.live rest, length-replicate {A = ℕ} (parts.frames - parts.pages) 0, low.size, enough.0) in
    record {
      bounds = record { few = few; enough = enough };
      pool_size = omega (arith, ap length bytes, length-replicate {A = ℕ} (parts.frames * PAGE) 0);
      tables = record {
        numbered = (omega (arith, blank.size, numbered.0), omega (arith, blank.size, numbered.1));
        homes = parts.live ++ rest;
        homes_size = many;
        live_table = record {
          size = omega (arith, low.size);
          below = λ page less. omega (arith, low.each page (omega (arith, low.size)), many, enough.0);
          home = λ page less.
              let inside : page < length parts.live = omega (arith, low.size) in
              let number : get_or parts.live page 0 ≡ page = omega (arith, low.each page inside) in
              ap (λ n. get_or (parts.live ++ rest) n 0) number ∙ get_or_append_left parts.live rest 0 page inside ∙ number;
        };
        slot_tables = All-weaker (IsBlank parts.pages) (IsSlot parts.pages (parts.live ++ rest)) (λ slot h. record { size = h.1; table = λ saved. absurd (false≢true (sym h.0 ∙ saved)) }) parts.slots blank.each;
      };
      accounts = record { counts_size = size; counted = subst (Counts parts.counts) (sym none) record { each = λ n. ap (λ xs. get_or xs n 0) zeros ∙ get_or-zeros parts.frames n }; held_count = empty ∙ sym (ap different none); room = omega (arith, empty, enough.0) };
      reserved_room = room;
      stack = first_stack parts.pages parts.frames parts.live parts.free parts.counts low high (omega (arith, enough.0)) zeros;
    }

pub made_is : {parts : Parts} {count : ℕ} → IsSound parts → parts.pool ≡ replicate (parts.frames * PAGE) 0 → IsRow parts.pages parts.frames parts.free → AreBlank count parts.pages parts.slots → IsMade parts.pages count parts.frames (pages_of parts)
made_is {parts = parts} so bytes high blank =
    let live = parts.live in
    record {
      pages_are = refl;
      frames_are = refl;
      zeros = same_number_lists (contents parts.pool live) (replicate (PAGE * parts.pages) 0) (omega (arith, length-contents live (live_frames so), length-replicate {A = ℕ} (PAGE * parts.pages) 0, so.tables.live_table.size))
          (λ k less.
          get_or-contents live k (live_frames so) (omega (arith, length-contents live (live_frames so)))
          ∙ ap (λ xs. get_or xs (PAGE * get_or live (k / PAGE) 0 + k % PAGE) 0) bytes
          ∙ get_or-zeros (parts.frames * PAGE) (PAGE * get_or live (k / PAGE) 0 + k % PAGE) ∙ sym (get_or-zeros (PAGE * parts.pages) k));
      empty = blank_seen parts.pages parts.pool parts.slots blank.each ∙ ap (λ n. replicate n None) blank.size;
      used = omega (arith, used-sum so, high.size, so.bounds.enough);
    }
