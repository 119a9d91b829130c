-- No call changes the code that a table is of.
use Rattle.guest_space.proofs.Terms.{Err, IfOk, IfSome, IsSome, List, None, Ok, Option, Result, Some, [], ap, arith, drop, false, get_or, inl, inr, length, refl, subst, suc, sym, take, true, zero, ℕ, ◌%◌, ◌*◌, ◌+◌, ◌-◌, ◌/◌, ◌<◌, ◌||◌, ◌∙◌, ◌∷◌, ◌≡◌, ◌≤◌, ◌⊎◌, cases_lt, false≢true, nat_tests, get_or_default, length-drop, length-take-le, All-head, All-replicate, All-tail, All-weaker, All, PAGE, Pages, Space, slot_at, Writes, put_at, IsTableOf, Table, AreApart, LiesIn, Span, meet, AreHeld, IsCode, has_address, has_range, some_has, HasCode, KeepsCode, code_bytes, word_count, IsFilled}
use Rattle.guest_space.proofs.FlatLemmas.{meet_comm, put-none, range_held, range_inside}
use Rattle.guest_space.proofs.FillLemmas.{area-put_out}

-- bytes that may be written are before or behind bytes that may not
ranges_apart : (spans : List Span) (start n at size : ℕ) → 0 < n → 0 < size → ((k : ℕ) → k < n → some_has 2 (start + k) spans ≡ false) → AreHeld 2 spans at size → (start + n ≤ at) ⊎ (at + size ≤ start)
ranges_apart spans start n at size some many fixed held =
    elim (cases_lt at (start + n)) [
      | inr behind ↦ inl behind
      | inl below ↦ elim (cases_lt start (at + size)) [
        | inr before ↦ inr before
        | inl above ↦ elim (cases_lt at start) [
          | inl first ↦
              (let there : at + (start - at) ≡ start + 0 = omega arith in
              absurd (false≢true (sym (fixed 0 some) ∙ sym (ap (λ place. some_has 2 place spans) there) ∙ held (start - at) (omega arith))))
          | inr later ↦
              (let there : start + (at - start) ≡ at + 0 = omega arith in
              absurd (false≢true (sym (fixed (at - start) (omega arith)) ∙ ap (λ place. some_has 2 place spans) there ∙ held 0 many)))
        ]
      ]
    ]

-- so they stay as they are
bytes_stay : (base pages at start n : ℕ) (spans : List Span) (bytes xs : List ℕ) → All (LiesIn base pages) spans → length xs ≡ PAGE * pages → AreHeld 1 spans start n → ((k : ℕ) → k < n → some_has 2 (start + k) spans ≡ false) → AreHeld 2 spans at (length bytes) → take n (drop (start - base) (put_at (at - base) bytes xs)) ≡ take n (drop (start - base) xs)
bytes_stay base pages at start n spans [] xs lies size fetched fixed held = ap (λ ys. take n (drop (start - base) ys)) (put-none (at - base) xs)
bytes_stay base pages at start zero spans (byte ∷ bytes) xs lies size fetched fixed held = refl
bytes_stay base pages at start (suc n) spans (byte ∷ bytes) xs lies size fetched fixed held =
    let code = range_inside 1 base pages spans start (suc n) lies (omega arith) fetched in
    let written = range_inside 2 base pages spans at (suc (length bytes)) lies (omega arith) held in
    area-put_out (start - base) (suc n) (at - base) (byte ∷ bytes) xs (omega arith) (omega arith)
    (elim (ranges_apart spans start (suc n) at (suc (length bytes)) (omega arith) (omega arith) fixed held) [
      | inl behind ↦ inl (omega arith)
      | inr before ↦ inr (omega arith)
    ])

-- a slot's code beside other bytes of the window, with the same code
still_keeps : (base : ℕ) (code : Table) (xs ys : List ℕ) → code_bytes base code ys ≡ code_bytes base code xs → (slot : Option Space) → KeepsCode base code xs slot → KeepsCode base code ys slot
still_keeps base code xs ys same None h = h
still_keeps base code xs ys same (Some space) h = h ∙ sym same

-- a store that has the same code, in which other slots have it too
same_code : (base : ℕ) (spans : List Span) (old new : Pages) (code : Table) → HasCode base spans old code → code_bytes base code new.live.bytes ≡ code_bytes base code old.live.bytes → All (KeepsCode base code old.live.bytes) new.slots → HasCode base spans new code
same_code base spans old new code so same saved = record {
  table = subst (λ xs. IsTableOf code.start xs code) (sym same) so.table;
  whole = so.whole;
  fetched = so.fetched;
  fixed = so.fixed;
  saved = All-weaker (KeepsCode base code old.live.bytes) (KeepsCode base code new.live.bytes) (still_keeps base code old.live.bytes new.live.bytes same) new.slots saved;
}

-- a write keeps it
pub writes_keep_code : (base : ℕ) (spans : List Span) (old new : Pages) (code : Table) (at : ℕ) (bytes : List ℕ) → All (LiesIn base old.pages) spans → length old.live.bytes ≡ PAGE * old.pages → HasCode base spans old code → AreHeld 2 spans at (length bytes) → Writes old new (at - base) bytes → HasCode base spans new code
writes_keep_code base spans old new code at bytes lies size so held wrote =
    same_code base spans old new code so
    (ap (code_bytes base code) wrote.written ∙ bytes_stay base old.pages at code.start (4 * word_count code) spans bytes old.live.bytes lies size so.fetched so.fixed held)
    (subst (All (KeepsCode base code old.live.bytes)) (sym wrote.slots) so.saved)

-- so does a restore
at_slot : (P : Option Space → Type 0) (slots : List (Option Space)) (slot : ℕ) → P None → All P slots → P (get_or slots slot None)
at_slot P [] slot none all = none
at_slot P (one ∷ slots) zero none all = All-head P one slots all
at_slot P (one ∷ slots) (suc slot) none all = at_slot P slots slot none (All-tail P one slots all)

restored_keeps : (base : ℕ) (spans : List Span) (old new : Pages) (code : Table) (there : Option Space) → HasCode base spans old code → KeepsCode base code old.live.bytes there → IsSome there → IfSome there (λ space. new ≡ record old { live = space }) → HasCode base spans new code
restored_keeps base spans old new code None so keeps some is = absurd (false≢true some)
restored_keeps base spans old new code (Some space) so keeps some is =
    subst (λ store. HasCode base spans store code) (sym is) (same_code base spans old (record old { live = space }) code so keeps so.saved)

pub restores_keep_code : (base : ℕ) (spans : List Span) (old new : Pages) (code : Table) (slot : ℕ) → HasCode base spans old code → IsSome (slot_at old slot) → IfSome (slot_at old slot) (λ space. new ≡ record old { live = space }) → HasCode base spans new code
restores_keep_code base spans old new code slot so some is =
    restored_keeps base spans old new code (slot_at old slot) so (at_slot (KeepsCode base code old.live.bytes) old.slots slot tt so.saved) some is

-- an address of a span that can't be written is in none that can
spans_lack : (flag at : ℕ) (spans : List Span) → All (λ (span : Span). has_address flag at span ≡ false) spans → some_has flag at spans ≡ false
spans_lack flag at [] lack = refl
spans_lack flag at (span ∷ spans) lack =
    ap (λ b. b || some_has flag at spans) (All-head (λ (span : Span). has_address flag at span ≡ false) span spans lack)
    ∙ spans_lack flag at spans (All-tail (λ (span : Span). has_address flag at span ≡ false) span spans lack)

itself_lacks : (at : ℕ) (span : Span) → span.flags / 2 % 2 ≡ 0 → has_address 2 at span ≡ false
itself_lacks at span fixed = grind (arith, nat_tests)

other_lacks : (at : ℕ) (span other : Span) → span.start ≤ at → at < span.end → meet span other ≡ false → has_address 2 at other ≡ false
other_lacks at span other from to apart = grind (arith, nat_tests)

span_fixed : (at i : ℕ) (spans : List Span) (span : Span) → AreApart spans → i < length spans → span ≡ get_or spans i span → span.start ≤ at → at < span.end → span.flags / 2 % 2 ≡ 0 → some_has 2 at spans ≡ false
span_fixed at i spans span apart less is from to fixed =
    spans_lack 2 at spans
    (λ k d below.
    let here : get_or spans i d ≡ span = get_or_default spans i d span less ∙ sym is in
    elim (cases_lt k i) as (λ _. has_address 2 at (get_or spans k d) ≡ false) [
      | inl before ↦ other_lacks at span (get_or spans k d) from to (meet_comm (get_or spans k d) span (subst (λ s. meet (get_or spans k d) s ≡ false) here (apart k i d before less)))
      | inr later ↦ elim (cases_lt i k) as (λ _. has_address 2 at (get_or spans k d) ≡ false) [
        | inl behind ↦ other_lacks at span (get_or spans k d) from to (subst (λ s. meet s (get_or spans k d) ≡ false) here (apart i k d behind below))
        | inr first ↦
            (let same : i ≡ k = omega arith in
            subst (λ n. has_address 2 at (get_or spans n d) ≡ false) same (subst (λ s. has_address 2 at s ≡ false) (sym here) (itself_lacks at span fixed)))
      ]
    ])

code_range : (start n : ℕ) (span : Span) → span.flags / 1 % 2 ≡ 1 → start ≡ span.start → start + n ≤ span.end → has_range 1 start n span ≡ true
code_range start n span executed at within = grind (arith, nat_tests)

-- how many words a table of so many bytes has
words_are : (start n : ℕ) (bytes : List ℕ) (code : Table) → IsTableOf start bytes code → length bytes ≡ n → 4 * word_count code ≡ n
words_are start n bytes code of size =
    let whole = of.whole in
    let filled = of.filled in
    omega arith

-- the table of the whole words of a span that may be executed and not written, where nothing is saved
pub span_has_code : (base i n : ℕ) (spans : List Span) (span : Span) (store : Pages) (code : Table) → IsFilled base spans store → i < length spans → span ≡ get_or spans i span → IsCode span → n ≡ (span.end - span.start) / 4 * 4 → IsTableOf span.start (take n (drop (span.start - base) store.live.bytes)) code → HasCode base spans store code
span_has_code base i n spans span store code laid less is so many of =
    let one : LiesIn base store.pages span = subst (LiesIn base store.pages) (sym is) (laid.within i span less) in
    let size : length store.live.bytes ≡ PAGE * store.pages = (laid.lawful.spaces store.live (inl refl)).bytes in
    let begins = one.0 in
    let order = one.1 in
    let ends = one.2 in
    let full : length (take n (drop (span.start - base) store.live.bytes)) ≡ n = length-take-le n (drop (span.start - base) store.live.bytes) (omega (arith, length-drop (span.start - base) store.live.bytes)) in
    let count : 4 * word_count code ≡ n = words_are span.start n (take n (drop (span.start - base) store.live.bytes)) code of full in
    let at : code.start ≡ span.start = of.start_is in
    let same : code_bytes base code store.live.bytes ≡ take n (drop (span.start - base) store.live.bytes) =
    ap (λ m. take m (drop (code.start - base) store.live.bytes)) count ∙ ap (λ m. take n (drop (m - base) store.live.bytes)) at in
    record {
      table = subst (λ m. IsTableOf m (code_bytes base code store.live.bytes) code) (sym at) (subst (λ xs. IsTableOf span.start xs code) (sym same) of);
      whole = ap (λ m. m % 4) at ∙ so.whole;
      fetched = range_held 1 code.start (4 * word_count code) i spans span less is (code_range code.start (4 * word_count code) span so.executed at (omega arith));
      fixed = λ k below. span_fixed (code.start + k) i spans span laid.apart less is (omega arith) (omega arith) so.unwritten;
      saved = subst (All (KeepsCode base code store.live.bytes)) (sym laid.empty) (All-replicate (KeepsCode base code store.live.bytes) (length store.slots) None tt);
    }

-- the same of a table that may be wanting for memory
pub made_has_code : {E : Type 0} (base i start place n : ℕ) (spans : List Span) (span : Span) (store : Pages) (result : Result Table E) → IsFilled base spans store → i < length spans → span ≡ get_or spans i span → IsCode span → start ≡ span.start → place ≡ start - base → n ≡ (span.end - span.start) / 4 * 4 → IfOk result (IsTableOf start (take n (drop place store.live.bytes))) → IfOk result (HasCode base spans store)
made_has_code base i start place n spans span store (Ok code) laid less is so at there many of =
    let from : place ≡ span.start - base = there ∙ ap (λ m. m - base) at in
    span_has_code base i n spans span store code laid less is so many
    (subst (λ m. IsTableOf span.start (take n (drop m store.live.bytes)) code) from (subst (λ m. IsTableOf m (take n (drop place store.live.bytes)) code) at of))
made_has_code base i start place n spans span store (Err e) laid less is so at there many of = tt
