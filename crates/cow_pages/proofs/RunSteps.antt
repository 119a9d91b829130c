-- A write right behind another one, and runs that are read page by page.
use Rattle.cow_pages.proofs.Terms.{Bool, List, [], ap, arith, cond, drop, false, get_or, inl, inr, length, refl, replicate, subst, suc, sym, take, true, zero, ℕ, ◌&&◌, ◌*◌, ◌++◌, ◌+◌, ◌<◌, ◌||◌, ◌∙◌, ◌≡◌, ◌≤◌, ◌⊎◌, take-add, and_parts, cases_Bool, false_from_ne_true, false≢true, or_parts, nat_tests, common_steps, append-nil, drop-drop, length-append, length-drop, length-replicate, length-take-le, replicate-append-replicate, take-append-drop, PAGE, IsLawful, IsSpace, Pages, has, saved_numbers, used_of, IsFree, NumberAfter, Writes, copied_pages, is_shared, put_at, reaches}
use Rattle.cow_pages.proofs.Counting.{has-append, has-get_or, has-at}
use Rattle.cow_pages.proofs.Frames.{put_at-put_at, run-put_apart}
use Rattle.cow_pages.proofs.Runs.{number_shared}

copied_nothing : (store : Pages) (at pages : ℕ) → copied_pages store at 0 pages ≡ 0
copied_nothing store at zero = refl
copied_nothing store at (suc pages) = omega (arith, copied_nothing store at pages)

pub writes_nothing : (store : Pages) (at : ℕ) → Writes store store at []
writes_nothing store at =
    let e : at + 0 ≡ at = omega arith in
    let none : used_of store ≡ used_of store + 0 = omega arith in
    record {
      pages = refl;
      frames = refl;
      slots = refl;
      written = sym (ap (λ n. take at store.live.bytes ++ [] ++ drop n store.live.bytes) e ∙ ap (λ xs. xs ++ drop at store.live.bytes) (append-nil (take at store.live.bytes)) ∙ take-append-drop at store.live.bytes);
      numbers = λ page less. refl;
      used = none ∙ ap (λ n. used_of store + n) (sym (copied_nothing store at store.pages));
    }

-- two writes reach what one of them reaches
pub reaches-append : (at first second page : ℕ) → reaches at (first + second) page ≡ (reaches at first page || reaches (at + first) second page)
reaches-append at first second page = grind (arith, nat_tests)

-- a page that was copied isn't shared any more, and every other one is as it was
pub shared_after : (old new : Pages) (at : ℕ) (bytes : List ℕ) (page : ℕ) → Writes old new at bytes → page < old.pages → is_shared new page ≡ cond (reaches at (length bytes) page && is_shared old page) false (is_shared old page)
shared_after old new at bytes page so less = number_shared old new page (reaches at (length bytes) page && is_shared old page) so.slots (so.numbers page less)

-- a number that is free after a write was free before it
pub free_before : (old new : Pages) (at : ℕ) (bytes : List ℕ) (n : ℕ) → Writes old new at bytes → length old.live.numbers ≡ old.pages → length new.live.numbers ≡ new.pages → IsFree new n → IsFree old n
free_before old new at bytes n so many more free =
    let parts = or_parts (has n new.live.numbers) (has n (saved_numbers new.slots)) (sym (has-append n new.live.numbers (saved_numbers new.slots)) ∙ free.1) in
    let unsaved : has n (saved_numbers old.slots) ≡ false = subst (λ xs. has n (saved_numbers xs) ≡ false) so.slots parts.1 in
    let unlive : has n old.live.numbers ≡ false =
    false_from_ne_true (has n old.live.numbers)
    (λ is.
    let found = has-at n old.live.numbers is in
    let page = found.0 in
    let less : page < old.pages = omega (arith, found.1) in
    elim (cases_Bool (reaches at (length bytes) page && is_shared old page)) [
      | inl copied ↦
          (let shared : is_shared old page ≡ true = (and_parts (reaches at (length bytes) page) (is_shared old page) copied).1 in
          false≢true (sym unsaved ∙ subst (λ m. has m (saved_numbers old.slots) ≡ true) found.2 shared))
      | inr kept ↦
          (let same : get_or new.live.numbers page 0 ≡ get_or old.live.numbers page 0 = subst (λ b. NumberAfter b old page (get_or new.live.numbers page 0)) kept (so.numbers page less) in
          let inside : page < length new.live.numbers = omega (arith, so.pages) in
          false≢true (sym parts.0 ∙ subst (λ m. has m new.live.numbers ≡ true) (same ∙ found.2) (has-get_or new.live.numbers page inside)))
    ]) in
    (subst (λ f. n < f) so.frames free.0, has-append n old.live.numbers (saved_numbers old.slots) ∙ ap (λ b. b || has n (saved_numbers old.slots)) unlive ∙ unsaved)

-- the two numbers that a page got, one after the other
both_numbers : (one two shared : Bool) (old mid : Pages) (page n : ℕ) → NumberAfter (one && shared) old page (get_or mid.live.numbers page 0) → NumberAfter (two && cond (one && shared) false shared) mid page n → (IsFree mid n → IsFree old n) → NumberAfter ((one || two) && shared) old page n
both_numbers true true true old mid page n first second back = subst (IsFree old) (sym second) first
both_numbers true false true old mid page n first second back = subst (IsFree old) (sym second) first
both_numbers true true false old mid page n first second back = second ∙ first
both_numbers true false false old mid page n first second back = second ∙ first
both_numbers false true true old mid page n first second back = back second
both_numbers false true false old mid page n first second back = second ∙ first
both_numbers false false true old mid page n first second back = second ∙ first
both_numbers false false false old mid page n first second back = second ∙ first

both_counts : (one two shared : Bool) → ◌≡◌ {A = ℕ} (cond ((one || two) && shared) 1 0) (cond (one && shared) 1 0 + cond (two && cond (one && shared) false shared) 1 0)
both_counts one two shared = grind arith

-- how many pages both copy
copied-append : (old mid : Pages) (at second : ℕ) (bytes : List ℕ) (pages : ℕ) → Writes old mid at bytes → pages ≤ old.pages → copied_pages old at (length bytes + second) pages ≡ copied_pages old at (length bytes) pages + copied_pages mid (at + length bytes) second pages
copied-append old mid at second bytes zero so less = refl
copied-append old mid at second bytes (suc page) so less =
    let fewer = copied-append old mid at second bytes page so (omega arith) in
    rw (reaches-append at (length bytes) second page, shared_after old mid at bytes page so (omega arith))
    (omega (arith, fewer, both_counts (reaches at (length bytes) page) (reaches (at + length bytes) second page) (is_shared old page)))

-- a write right behind another one is a write of both
pub writes_more : (old mid new : Pages) (at : ℕ) (first second : List ℕ) → Writes old mid at first → Writes mid new (at + length first) second → IsLawful old → IsLawful mid → at + length first + length second ≤ PAGE * old.pages → Writes old new at (first ++ second)
writes_more old mid new at first second so then before between room =
    let many : length (first ++ second) ≡ length first + length second = length-append first second in
    let here : IsSpace old.pages old.frames old.live = before.spaces old.live (inl refl) in
    let there : IsSpace mid.pages mid.frames mid.live = between.spaces mid.live (inl refl) in
    record {
      pages = then.pages ∙ so.pages;
      frames = then.frames ∙ so.frames;
      slots = then.slots ∙ so.slots;
      written = then.written ∙ ap (put_at (at + length first) second) so.written ∙ put_at-put_at at first second old.live.bytes (omega (arith, here.bytes));
      numbers = λ page less.
          let later : NumberAfter (reaches (at + length first) (length second) page && is_shared mid page) mid page (get_or new.live.numbers page 0) = then.numbers page (omega (arith, so.pages)) in
          let last : NumberAfter (reaches (at + length first) (length second) page && cond (reaches at (length first) page && is_shared old page) false (is_shared old page)) mid page (get_or new.live.numbers page 0) =
          subst (λ b. NumberAfter (reaches (at + length first) (length second) page && b) mid page (get_or new.live.numbers page 0)) (shared_after old mid at first page so less) later in
          subst (λ b. NumberAfter (b && is_shared old page) old page (get_or new.live.numbers page 0))
          (sym (ap (λ n. reaches at n page) many ∙ reaches-append at (length first) (length second) page))
          (both_numbers (reaches at (length first) page) (reaches (at + length first) (length second) page) (is_shared old page) old mid page (get_or new.live.numbers page 0) (so.numbers page less) last
          (free_before old mid at first (get_or new.live.numbers page 0) so here.numbers there.numbers));
      used =
          (let sum : copied_pages old at (length first + length second) old.pages ≡ copied_pages old at (length first) old.pages + copied_pages mid (at + length first) (length second) old.pages = copied-append old mid at (length second) first old.pages so (omega arith) in
          let all : copied_pages old at (length (first ++ second)) old.pages ≡ copied_pages old at (length first + length second) old.pages = ap (λ n. copied_pages old at n old.pages) many in
          let same : copied_pages mid (at + length first) (length second) mid.pages ≡ copied_pages mid (at + length first) (length second) old.pages = ap (copied_pages mid (at + length first) (length second)) so.pages in
          omega (arith, so.used, then.used, sum, all, same));
    }

-- the loop of a write: the bytes so far, and the next part
pub run_more : (old mid new : Pages) (at done count : ℕ) (bytes : List ℕ) → Writes old mid at (take done bytes) → Writes mid new (at + done) (take count (drop done bytes)) → IsLawful old → IsLawful mid → done + count ≤ length bytes → at + length bytes ≤ PAGE * old.pages → Writes old new at (take (done + count) bytes)
run_more old mid new at done count bytes so then before between less room =
    let size : length (take done bytes) ≡ done = length-take-le done bytes (omega arith) in
    let part : length (take count (drop done bytes)) ≡ count = length-take-le count (drop done bytes) (omega (arith, length-drop done bytes)) in
    subst (Writes old new at) (sym (take-add done count bytes))
    (writes_more old mid new at (take done bytes) (take count (drop done bytes)) so (subst (λ n. Writes mid new (at + n) (take count (drop done bytes))) (sym size) then) before between (omega arith))

-- the same for zeros
pub zeros_more : (old mid new : Pages) (at done count : ℕ) → Writes old mid at (replicate done 0) → Writes mid new (at + done) (replicate count 0) → IsLawful old → IsLawful mid → at + done + count ≤ PAGE * old.pages → Writes old new at (replicate (done + count) 0)
zeros_more old mid new at done count so then before between room =
    let size : length (replicate {A = ℕ} done 0) ≡ done = length-replicate done 0 in
    let part : length (replicate {A = ℕ} count 0) ≡ count = length-replicate count 0 in
    subst (Writes old new at) (replicate-append-replicate done count 0)
    (writes_more old mid new at (replicate done 0) (replicate count 0) so (subst (λ n. Writes mid new (at + n) (replicate count 0)) (sym size) then) before between (omega arith))

-- the loop of a read: the bytes so far, and the next part
pub read_more : (buf bytes part : List ℕ) (at done count : ℕ) → take done buf ≡ take done (drop at bytes) → part ≡ take count (drop (at + done) bytes) → done + count ≤ length buf → length part ≡ count → take (done + count) (take done buf ++ (part ++ drop count (drop done buf))) ≡ take (done + count) (drop at bytes)
read_more buf bytes part at done count so is less size = grind (arith, common_steps, take-add)

pub mid_size : (buf part : List ℕ) (done count : ℕ) → done + count ≤ length buf → length part ≡ count → length (take done buf ++ (part ++ drop count (drop done buf))) ≡ length buf
mid_size buf part done count less size = grind (arith, common_steps)

-- the loop of a copy: the bytes so far, and the next part, which is read where nothing was written
pub copies_more : (old mid new : Pages) (from to done count all : ℕ) → Writes old mid to (take done (drop from old.live.bytes)) → Writes mid new (to + done) (take count (drop (from + done) mid.live.bytes)) → IsLawful old → IsLawful mid → done + count ≤ all → from + all ≤ PAGE * old.pages → to + all ≤ PAGE * old.pages → (from + all ≤ to) ⊎ (to + all ≤ from) → Writes old new to (take (done + count) (drop from old.live.bytes))
copies_more old mid new from to done count all so then before between less source target apart =
    let here : IsSpace old.pages old.frames old.live = before.spaces old.live (inl refl) in
    let bytes : List ℕ = drop from old.live.bytes in
    let rest = length-drop from old.live.bytes in
    let whole = here.bytes in
    let size : length (take done bytes) ≡ done = length-take-le done bytes (omega (arith, rest, whole)) in
    let part : length (take count (drop done bytes)) ≡ count = length-take-le count (drop done bytes) (omega (arith, length-drop done bytes, rest, whole)) in
    let clear : (from + done + count ≤ to) ⊎ (to + length (take done bytes) ≤ from + done) =
    elim apart [ inl behind ↦ inl (omega (arith, behind, less)) | inr ahead ↦ inr (omega (arith, ahead, less, size)) ] in
    let same : take count (drop (from + done) mid.live.bytes) ≡ take count (drop done bytes) =
    ap (λ xs. take count (drop (from + done) xs)) so.written
    ∙ run-put_apart to (from + done) count (take done bytes) old.live.bytes (omega (arith, size, whole)) (omega (arith, whole)) clear
    ∙ ap (take count) (sym (drop-drop done from old.live.bytes)) in
    let next : Writes mid new (to + length (take done bytes)) (take count (drop done bytes)) =
    subst (λ n. Writes mid new (to + n) (take count (drop done bytes))) (sym size) (subst (Writes mid new (to + done)) same then) in
    subst (Writes old new to) (sym (take-add done count bytes)) (writes_more old mid new to (take done bytes) (take count (drop done bytes)) so next before between (omega (arith, size, part)))
