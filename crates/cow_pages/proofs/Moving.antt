-- The moves of pages that are kept.
use Rattle.cow_pages.proofs.Terms.{List, ap, arith, false, get_or, inl, inr, length, replicate, set, subst, sym, ℕ, ◌%◌, ◌+◌, ◌<◌, ◌∙◌, ◌≡◌, ◌≤◌, cases_eq, cases_lt, false≢true, get_or-replicate, get_or-set_other, get_or-set_same, length-replicate, length-set, All-get_or, All-set, All-weaker, MOST, RECENT, Slot, AreBlank, AreInside, AreLogged, IsKept, IsLogged, IsLoggedSince, Parts}
use Rattle.cow_pages.proofs.Stores.{HasSlot, slot_is}
use Rattle.cow_pages.proofs.Making.{IsBlank}

inside_more : (pages page i : ℕ) (recent : List ℕ) → AreInside pages recent → page < pages → AreInside pages (set recent i page)
inside_more pages page i recent so less = record {
  size = length-set recent i page ∙ so.size;
  below = λ k under. grind (arith, get_or-set_same, get_or-set_other, length-set, so.below k);
}

one_moved : (pages count after page fresh : ℕ) (recent live : List ℕ) (slot : Slot) → AreInside pages recent → (count < MOST → after ≡ count + 1) → (MOST ≤ count → after ≡ count) → IsLogged count recent live slot → IsLogged after (set recent (count % RECENT) page) (set live page fresh) slot
one_moved pages count after page fresh recent live slot kept rise still so = record {
  seen = λ saved. elim (cases_lt count MOST) [ inl under ↦ omega (arith, so.seen saved, rise under) | inr past ↦ omega (arith, so.seen saved, still past) ];
  moved = λ saved few short k inside other.
      let under : count < MOST = elim (cases_lt count MOST) [ inl less ↦ less | inr past ↦ absurd (omega (arith, still past)) ] in
      let up : after ≡ count + 1 = rise under in
      elim (cases_eq page k) [
        | inl here ↦ (count, so.seen saved, omega arith, get_or-set_same recent (count % RECENT) page 0 (omega (arith, kept.size)) ∙ here)
        | inr away ↦
            (let back : get_or (set live page fresh) k 0 ≡ get_or live k 0 = get_or-set_other live page k fresh 0 (λ e. away (sym e)) in
            let found = so.moved saved under (omega arith) k (omega (arith, length-set live page fresh)) (λ e. other (e ∙ sym back)) in
            let from : slot.seen ≤ found.0 = found.1 in
            let to : found.0 < count = found.2 in
            let apart : found.0 % RECENT ≡ count % RECENT → ⊥ = λ e. omega arith in
            (found.0, from, omega arith, get_or-set_other recent (count % RECENT) (found.0 % RECENT) page 0 apart ∙ found.3))
      ];
}

-- a page has moved
pub logged_moved : {pages count after page : ℕ} {recent live next line : List ℕ} {slots : List Slot} (fresh : ℕ) → AreLogged pages count recent live slots → page < pages → (count < MOST → after ≡ count + 1) → (MOST ≤ count → after ≡ count) → next ≡ set recent (count % RECENT) page → line ≡ set live page fresh → AreLogged pages after next line slots
logged_moved {pages = pages} {count = count} {after = after} {page = page} {recent = recent} {live = live} {line = line} {slots = slots} fresh so less rise still made moved =
    subst (λ xs. AreLogged pages after xs line slots) (sym made)
    (subst (λ xs. AreLogged pages after (set recent (count % RECENT) page) xs slots) (sym moved) record {
      inside = inside_more pages page (count % RECENT) recent so.inside less;
      each = All-weaker (IsLogged count recent live) (IsLogged after (set recent (count % RECENT) page) (set live page fresh)) (λ slot one. one_moved pages count after page fresh recent live slot so.inside rise still one) slots so.each;
    })

-- any page may have moved
one_lost : (count after : ℕ) (recent live other : List ℕ) (slot : Slot) → (count < MOST → count + RECENT < after) → (MOST ≤ count → after ≡ count) → IsLogged count recent live slot → IsLogged after recent other slot
one_lost count after recent live other slot rise still so = record {
  seen = λ saved. elim (cases_lt count MOST) [ inl under ↦ omega (arith, so.seen saved, rise under) | inr past ↦ omega (arith, so.seen saved, still past) ];
  moved = λ saved few short k inside other. elim (cases_lt count MOST) [ inl under ↦ absurd (omega (arith, so.seen saved, rise under)) | inr past ↦ absurd (omega (arith, still past)) ];
}

pub logged_lost : {pages count after : ℕ} {recent live next line : List ℕ} {slots : List Slot} → AreLogged pages count recent live slots → (count < MOST → count + RECENT < after) → (MOST ≤ count → after ≡ count) → next ≡ recent → AreLogged pages after next line slots
logged_lost {pages = pages} {count = count} {after = after} {recent = recent} {live = live} {line = line} {slots = slots} so rise still same =
    subst (λ xs. AreLogged pages after xs line slots) (sym same) record {
      inside = so.inside;
      each = All-weaker (IsLogged count recent live) (IsLogged after recent line) (λ slot one. one_lost count after recent live line slot rise still one) slots so.each;
    }

-- a slot holds the live table, or nothing
pub log_saved : {count : ℕ} {recent live : List ℕ} {slot : Slot} → slot.seen ≡ count → slot.table.items ≡ live → IsLogged count recent live slot
log_saved seen table = record { seen = λ saved. omega (arith, seen); moved = λ saved few short k inside other. absurd (other (ap (λ xs. get_or xs k 0) table)) }

pub log_none : {count : ℕ} {recent live : List ℕ} {slot : Slot} → slot.saved ≡ false → IsLogged count recent live slot
log_none unsaved = record { seen = λ saved. absurd (false≢true (sym unsaved ∙ saved)); moved = λ saved few short k inside other. absurd (false≢true (sym unsaved ∙ saved)) }

pub logged_set : {pages count : ℕ} {recent live : List ℕ} {slots : List Slot} (i : ℕ) (next : Slot) → AreLogged pages count recent live slots → IsLogged count recent live next → AreLogged pages count recent live (set slots i next)
logged_set {count = count} {recent = recent} {live = live} {slots = slots} i next so one = record { inside = so.inside; each = All-set (IsLogged count recent live) slots i next one so.each }

-- no slot holds anything
pub logged_made : {pages size count : ℕ} {recent live : List ℕ} {slots : List Slot} → 1 ≤ pages → recent ≡ replicate RECENT 0 → AreBlank size pages slots → AreLogged pages count recent live slots
logged_made {pages = pages} {count = count} {recent = recent} {live = live} {slots = slots} some zeros blank =
    let many : length recent ≡ RECENT = ap length zeros ∙ length-replicate {A = ℕ} RECENT 0 in
    record {
      inside = record {
        size = many;
        below = λ k under.
            let near : k < RECENT = omega (arith, many) in
            let none : get_or recent k 0 ≡ 0 = ap (λ xs. get_or xs k 0) zeros ∙ get_or-replicate {A = ℕ} RECENT k 0 0 near in
            omega arith;
      };
      each = All-weaker (IsBlank pages) (IsLogged count recent live) (λ slot h. log_none h.0) slots blank.each;
    }

-- what a save over a slot asks of the moves
pub over_moves : {parts : Parts} {count i : ℕ} {recent table line : List ℕ} {slot : Slot} → IsKept parts count recent → HasSlot parts i slot → table ≡ slot.table.items → line ≡ parts.live → IsLoggedSince slot.seen count recent table line
over_moves {parts = parts} {count = count} {recent = recent} {slot = slot} so at first second =
    let log : IsLogged count recent parts.live slot = subst (IsLogged count recent parts.live) (sym at.is) (All-get_or (IsLogged count recent parts.live) parts.slots _ slot at.less so.logged.each) in
    rw (first, second) record {
      inside = subst (λ n. AreInside n recent) (sym (slot_is so.sound at).size) so.logged.inside;
      order = log.seen at.saved;
      moved = log.moved at.saved;
    }
