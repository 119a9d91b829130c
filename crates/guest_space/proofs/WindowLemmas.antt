-- Windows of a memory.
use Rattle.guest_space.proofs.Terms.{Bool, List, MatchBool, ap, arith, cond, false, if◌then◌else◌, inl, inr, length, refl, replicate, subst, suc, sym, true, zero, ℕ, ◌%◌, ◌&&◌, ◌*◌, ◌+◌, ◌-◌, ◌/◌, ◌<◌, ◌==◌, ◌^◌, ◌∙◌, ◌≡◌, ◌≤◌, cases_eq, cases_lt, get_or-replicate, get_or_past, length-replicate, slice_index, PAGE, shared_after, reaches-here, reaches-other, Pages, has, saved_numbers, used_of, NumberAfter, StandsAt, Writes, copied_pages, is_shared, reaches, little_bytes, Table, permitted, Stretch, RegisterWindows, Window, Windows, GuestPages, IsLawfulSpace, Span, flat, guest_pages, Puts, AreHeld, IsOpen, AreWindows, EachIs, IsLoadWindow, IsOfPage, IsStoreWindow, IsWindow, window_of}
use Rattle.guest_space.proofs.SpaceLemmas.{is_inside, length-little_bytes}

-- fewer bytes
pub held_less : (flag : ℕ) (spans : List Span) (at size : ℕ) → size ≤ 4 → AreHeld flag spans at 4 → AreHeld flag spans at size
held_less flag spans at size few held = λ k less. held k (omega arith)

-- a window of no address
pub none_of_page : (space : GuestPages) (at : ℕ) (window : Window) → window.count ≡ 0 → IsOfPage space at window
none_of_page space at window none = λ away within. absurd (omega (arith, none, within))

-- an address in the same page, by its distance from one that is given
same_page : (near back away : ℕ) → back ≤ near % PAGE → near % PAGE - back + away < PAGE → ((near - back + away) / PAGE ≡ near / PAGE) × ((near - back + away) % PAGE ≡ near % PAGE - back + away)
same_page near back away less within = (omega arith, omega arith)

-- where the bytes behind a place stand
stands_behind : (store : Pages) (near back away there other : ℕ) → other ≡ near - back + away → back ≤ near % PAGE → near % PAGE - back + away + 4 ≤ PAGE → other < PAGE * store.pages → there ≡ PAGE * slice_index store.live.numbers (near / PAGE) + near % PAGE → StandsAt store other 4 (there - back + away)
stands_behind store near back away there other far less within inside is =
    let same = same_page near back away less (omega arith) in
    let page : other / PAGE ≡ near / PAGE = ap (λ n. n / PAGE) far ∙ same.0 in
    let offset : other % PAGE ≡ near % PAGE - back + away = ap (λ n. n % PAGE) far ∙ same.1 in
    let place : there - back + away ≡ PAGE * slice_index store.live.numbers (near / PAGE) + (near % PAGE - back + away) = omega arith in
    record {
      inside = inside;
      within = omega (arith, offset, within);
      place_is = place ∙ ap (λ n. PAGE * slice_index store.live.numbers n + (near % PAGE - back + away)) (sym page) ∙ ap (λ n. PAGE * slice_index store.live.numbers (other / PAGE) + n) (sym offset);
    }

-- the window around an address
pub window_made : (flag : ℕ) (space : GuestPages) (stretch : Stretch) (at back count there : ℕ) → IsLawfulSpace space → IsOpen flag space.spans stretch → stretch.start ≤ at → at < stretch.start + stretch.count
    → (at - space.base) % PAGE + 4 ≤ PAGE → back ≤ (at - space.base) % PAGE → back ≤ at - stretch.start → count ≤ PAGE - 3 - ((at - space.base) % PAGE - back) → count ≤ stretch.count - (at - back - stretch.start)
    → there ≡ PAGE * slice_index space.store.live.numbers ((at - space.base) / PAGE) + (at - space.base) % PAGE → there < 2 ^ 30 → IsWindow flag space.base space.spans space.store record { start = at - back; count = count; place = there - back }
window_made flag space stretch at back count there so open' from to fits less begins room long is small =
    let under = open'.below in
    record {
      below = omega arith;
      small = omega arith;
      held = held_there;
      stands = λ away within.
          let near = is_inside flag space at 4 so (omega arith) (open'.held at from to) in
          let inside = is_inside flag space (at - back + away) 4 so (omega arith) (held_there away within) in
          let first = near.0 in
          let last = inside.1 in
          stands_behind space.store (at - space.base) back away there (at - back + away - space.base) (omega arith) less (omega arith) (omega arith) is;
    }
  where
    held_there : (away : ℕ) → away < count → AreHeld flag space.spans (at - back + away) 4
    held_there away within = open'.held (at - back + away) (omega arith) (omega arith)

pub parts_window : (flag base : ℕ) (spans : List Span) (store : Pages) (code : Table) (space : GuestPages) (stretch : Stretch) (at back count there : ℕ) → IsLawfulSpace (guest_pages base spans store code) → guest_pages base spans store code ≡ space → IsOpen flag space.spans stretch → stretch.start ≤ at → at < stretch.start + stretch.count
    → (at - base) % PAGE + 4 ≤ PAGE → back ≤ (at - base) % PAGE → back ≤ at - stretch.start → count ≤ PAGE - 3 - ((at - base) % PAGE - back) → count ≤ stretch.count - (at - back - stretch.start)
    → there ≡ PAGE * slice_index store.live.numbers ((at - base) / PAGE) + (at - base) % PAGE → there < 2 ^ 30 → IsWindow flag space.base space.spans space.store record { start = at - back; count = count; place = there - back }
parts_window flag base spans store code space stretch at back count there so view open' from to fits less begins room long is small =
    subst (λ (s : GuestPages). IsWindow flag s.base s.spans s.store record { start = at - back; count = count; place = there - back }) view
    (window_made flag (guest_pages base spans store code) stretch at back count there so (subst (λ (s : GuestPages). IsOpen flag s.spans stretch) (sym view) open') from to fits less begins room long is small)

and_false : (b : Bool) → (b && false) ≡ false
and_false true = refl
and_false false = refl

module _ (old new : Pages) (at : ℕ) (bytes : List ℕ) where
  -- a page that no slot has keeps its number
  number_stays : (page : ℕ) → Writes old new at bytes → page < old.pages → is_shared old page ≡ false → slice_index new.live.numbers page ≡ slice_index old.live.numbers page
  number_stays page wrote less own =
      subst (λ b. NumberAfter b old page (slice_index new.live.numbers page)) (ap (λ b. reaches at (length bytes) page && b) own ∙ and_false (reaches at (length bytes) page)) (wrote.numbers page less)

  -- and no slot has it
  own_stays : (page : ℕ) → Writes old new at bytes → page < old.pages → is_shared old page ≡ false → is_shared new page ≡ false
  own_stays page wrote less own =
      ap (λ n. has n (saved_numbers new.slots)) (number_stays page wrote less own) ∙ ap (λ xs. has (slice_index old.live.numbers page) (saved_numbers xs)) wrote.slots ∙ own

  -- a page that wasn't written keeps its number
  pub number_elsewhere : (page : ℕ) → Writes old new at bytes → page < old.pages → at % PAGE + length bytes ≤ PAGE → (page ≡ at / PAGE → ⊥) → slice_index new.live.numbers page ≡ slice_index old.live.numbers page
  number_elsewhere page wrote less within other =
      subst (λ b. NumberAfter b old page (slice_index new.live.numbers page)) (ap (λ b. b && is_shared old page) (reaches-other at (length bytes) page within other)) (wrote.numbers page less)

  -- where the written page keeps its number, each does
  pub numbers_stay : Writes old new at bytes → at % PAGE + length bytes ≤ PAGE → slice_index new.live.numbers (at / PAGE) ≡ slice_index old.live.numbers (at / PAGE) → (page : ℕ) → page < old.pages → slice_index new.live.numbers page ≡ slice_index old.live.numbers page
  numbers_stay wrote within same page less = elim (cases_eq page (at / PAGE)) [
    | inl here ↦ subst (λ p. slice_index new.live.numbers p ≡ slice_index old.live.numbers p) (sym here) same
    | inr other ↦ number_elsewhere page wrote less within other
  ]

  -- the written page is in no slot
  pub own_after : Writes old new at bytes → 0 < length bytes → at % PAGE + length bytes ≤ PAGE → at / PAGE < old.pages → is_shared new (at / PAGE) ≡ false
  own_after wrote some within less =
      shared_after old new at bytes (at / PAGE) wrote less ∙ ap (λ b. cond (b && is_shared old (at / PAGE)) false (is_shared old (at / PAGE))) (reaches-here at (length bytes) some within) ∙ gone (is_shared old (at / PAGE))
    where
      gone : (b : Bool) → cond b false b ≡ false
      gone true = refl
      gone false = refl

  stands_stays : (near size place : ℕ) → new.pages ≡ old.pages → slice_index new.live.numbers (near / PAGE) ≡ slice_index old.live.numbers (near / PAGE) → StandsAt old near size place → StandsAt new near size place
  stands_stays near size place many same stands = record {
    inside = subst (λ n. near < PAGE * n) (sym many) stands.inside;
    within = stands.within;
    place_is = stands.place_is ∙ ap (λ n. PAGE * n + near % PAGE) (sym same);
  }

  window_stays : (flag base : ℕ) (spans : List Span) (window : Window) → new.pages ≡ old.pages → ((away : ℕ) → away < window.count → slice_index new.live.numbers ((window.start + away - base) / PAGE) ≡ slice_index old.live.numbers ((window.start + away - base) / PAGE))
      → IsWindow flag base spans old window → IsWindow flag base spans new window
  window_stays flag base spans window many same so = record {
    below = so.below;
    small = so.small;
    held = so.held;
    stands = λ away within. stands_stays (window.start + away - base) 4 (window.place + away) many (same away within) (so.stands away within);
  }

-- the page of an address of a window
pub page_within : (near pages : ℕ) → near < PAGE * pages → near / PAGE < pages
page_within near pages inside = omega arith

module _ (old new : GuestPages) (at : ℕ) (bytes : List ℕ) where
  pub store_window_stays : Puts old at bytes new → (window : Window) → IsStoreWindow old window → IsStoreWindow new window
  store_window_stays put window so =
      let wrote = put.pages in
      let less : (away : ℕ) → away < window.count → (window.start + away - old.base) / PAGE < old.store.pages = λ away within. page_within (window.start + away - old.base) old.store.pages (so.window_is.stands away within).inside in
      let moved : IsWindow 2 old.base old.spans new.store window = window_stays old.store new.store (at - old.base) bytes 2 old.base old.spans window wrote.pages
      (λ away within. number_stays old.store new.store (at - old.base) bytes ((window.start + away - old.base) / PAGE) wrote (less away within) (so.own away within)) so.window_is in
      record {
        window_is = subst (λ n. IsWindow 2 n new.spans new.store window) (sym put.base_stays) (subst (λ xs. IsWindow 2 old.base xs new.store window) (sym put.spans_stay) moved);
        own = λ away within.
            subst (λ n. is_shared new.store ((window.start + away - n) / PAGE) ≡ false) (sym put.base_stays)
            (own_stays old.store new.store (at - old.base) bytes ((window.start + away - old.base) / PAGE) wrote (less away within) (so.own away within));
      }

  pub load_window_stays : Puts old at bytes new → ((page : ℕ) → page < old.store.pages → slice_index new.store.live.numbers page ≡ slice_index old.store.live.numbers page) → (window : Window) → IsLoadWindow old window → IsLoadWindow new window
  load_window_stays put same window so =
      let wrote = put.pages in
      let moved : IsWindow 4 old.base old.spans new.store window = window_stays old.store new.store (at - old.base) bytes 4 old.base old.spans window wrote.pages
      (λ away within. same ((window.start + away - old.base) / PAGE) (page_within (window.start + away - old.base) old.store.pages (so.stands away within).inside)) so in
      subst (λ n. IsWindow 4 n new.spans new.store window) (sym put.base_stays) (subst (λ xs. IsWindow 4 old.base xs new.store window) (sym put.spans_stay) moved)

  -- the windows after a write that moved no page
  pub windows_stay : (windows : Windows) → Puts old at bytes new → ((page : ℕ) → page < old.store.pages → slice_index new.store.live.numbers page ≡ slice_index old.store.live.numbers page) → AreWindows old windows → AreWindows new windows
  windows_stay windows put same so = record {
    loads = λ register. load_window_stays put same (window_of windows.loads register) (so.loads register);
    stores = λ register. store_window_stays put (window_of windows.stores register) (so.stores register);
  }

-- an address that a window has
pub held_here : (flag base : ℕ) (spans : List Span) (store : Pages) (window : Window) (at : ℕ) → IsWindow flag base spans store window → window.start ≤ at → at < window.start + window.count → AreHeld flag spans at 4
held_here flag base spans store window at so from to =
    let e : window.start + (at - window.start) ≡ at = omega arith in
    subst (λ n. AreHeld flag spans n 4) e (so.held (at - window.start) (omega arith))

pub stands_here : (flag base : ℕ) (spans : List Span) (store : Pages) (window : Window) (at : ℕ) → IsWindow flag base spans store window → window.start ≤ at → at < window.start + window.count → StandsAt store (at - base) 4 (window.place + (at - window.start))
stands_here flag base spans store window at so from to =
    let e : window.start + (at - window.start) ≡ at = omega arith in
    subst (λ n. StandsAt store (n - base) 4 (window.place + (at - window.start))) e (so.stands (at - window.start) (omega arith))

pub own_here : (space : GuestPages) (window : Window) (at : ℕ) → IsStoreWindow space window → window.start ≤ at → at < window.start + window.count → is_shared space.store ((at - space.base) / PAGE) ≡ false
own_here space window at so from to =
    let e : window.start + (at - window.start) ≡ at = omega arith in
    subst (λ n. is_shared space.store ((n - space.base) / PAGE) ≡ false) e (so.own (at - window.start) (omega arith))

-- a window of no address
pub none_is : (flag base : ℕ) (spans : List Span) (store : Pages) → IsWindow flag base spans store record { start = 0; count = 0; place = 0 }
none_is flag base spans store = record { below = omega arith; small = omega arith; held = λ away within. absurd (omega (arith, within)); stands = λ away within. absurd (omega (arith, within)) }

no_store_window : (space : GuestPages) → IsStoreWindow space record { start = 0; count = 0; place = 0 }
no_store_window space = record { window_is = none_is 2 space.base space.spans space.store; own = λ away within. absurd (omega (arith, within)) }

pub same_window : (one other : Window) → one.start ≡ other.start → one.count ≡ other.count → one.place ≡ other.place → one ≡ other
same_window one other starts counts places =
    ap (λ n. record { start = n; count = one.count; place = one.place }) starts ∙ ap (λ n. record { start = other.start; count = n; place = one.place }) counts ∙ ap (λ n. record { start = other.start; count = other.count; place = n }) places

zero_at : (n i : ℕ) → slice_index (replicate n 0) i ≡ 0
zero_at n i = elim (cases_lt i n) [
  | inl less ↦ get_or-replicate n i 0 0 less
  | inr past ↦ get_or_past (replicate n 0) i 0 (subst (λ k. k ≤ i) (sym (length-replicate n 0)) past)
]

-- no register has a window
module _ (windows : RegisterWindows) where
  none_of : windows.starts ≡ replicate 40 0 → windows.counts ≡ replicate 40 0 → windows.places ≡ replicate 40 0 → (register : ℕ) → record { start = 0; count = 0; place = 0 } ≡ window_of windows register
  none_of starts counts places register = sym (same_window (window_of windows register) record { start = 0; count = 0; place = 0 } (zero_of windows.starts starts) (zero_of windows.counts counts) (zero_of windows.places places))
    where
      zero_of : (parts : List ℕ) → parts ≡ replicate 40 0 → slice_index parts register ≡ 0
      zero_of parts is = ap (λ xs. slice_index xs register) is ∙ zero_at 40 register

  pub no_loads : windows.starts ≡ replicate 40 0 → windows.counts ≡ replicate 40 0 → windows.places ≡ replicate 40 0 → (space : GuestPages) → EachIs (IsLoadWindow space) windows
  no_loads starts counts places space register = subst (IsLoadWindow space) (none_of starts counts places register) (none_is 4 space.base space.spans space.store)

  pub no_stores : windows.starts ≡ replicate 40 0 → windows.counts ≡ replicate 40 0 → windows.places ≡ replicate 40 0 → (space : GuestPages) → EachIs (IsStoreWindow space) windows
  no_stores starts counts places space register = subst (IsStoreWindow space) (none_of starts counts places register) (no_store_window space)

module _ (old new : GuestPages) (at size value : ℕ) where
  -- the window that is made after a store
  pub window_after : (window : Window) → IsLawfulSpace old → Puts old at (little_bytes size value) new → AreHeld 2 old.spans at 4 → 0 < size → (at - old.base) % PAGE + size ≤ PAGE → IsWindow 2 new.base new.spans new.store window → IsOfPage new at window → IsStoreWindow new window
  window_after window so put held some within is of =
      let many = length-little_bytes size value in
      let inside = is_inside 2 old at 4 so (omega arith) held in
      let low = inside.0 in
      let high = inside.1 in
      let own : is_shared new.store ((at - old.base) / PAGE) ≡ false = own_after old.store new.store (at - old.base) (little_bytes size value) put.pages (omega (arith, many, some)) (omega (arith, many, within)) (page_within (at - old.base) old.store.pages (omega (arith, low, high))) in
      record {
        window_is = is;
        own = λ away less. subst (λ n. is_shared new.store n ≡ false) (sym (of away less)) (subst (λ n. is_shared new.store ((at - n) / PAGE) ≡ false) (sym put.base_stays) own);
      }

  -- the windows after a store that moved no page
  pub windows_kept : (windows : Windows) → Puts old at (little_bytes size value) new → (at - old.base) % PAGE + size ≤ PAGE → slice_index new.store.live.numbers ((at - old.base) / PAGE) ≡ slice_index old.store.live.numbers ((at - old.base) / PAGE) → AreWindows old windows → AreWindows new windows
  windows_kept windows put within same so =
      let many = length-little_bytes size value in
      windows_stay old new at (little_bytes size value) windows put (numbers_stay old.store new.store (at - old.base) (little_bytes size value) put.pages (omega (arith, many, within)) same) so

-- what is known of two spaces that are seen as their parts
module _ (old new : GuestPages) (base other : ℕ) (spans more : List Span) (store after : Pages) (code table : Table) where
  pub parts_stay : guest_pages base spans store code ≡ old → guest_pages other more after table ≡ new → (at : ℕ) (bytes : List ℕ) → Puts old at bytes new → after.pages ≡ store.pages
  parts_stay was is at bytes put = ap (λ (s : GuestPages). s.store.pages) is ∙ put.pages.pages ∙ sym (ap (λ (s : GuestPages). s.store.pages) was)

  pub parts_number : guest_pages base spans store code ≡ old → guest_pages other more after table ≡ new → (at before place : ℕ) → before ≡ PAGE * slice_index store.live.numbers ((at - base) / PAGE) + (at - base) % PAGE → place ≡ PAGE * slice_index after.live.numbers ((at - base) / PAGE) + (at - base) % PAGE → place ≡ before
      → slice_index new.store.live.numbers ((at - old.base) / PAGE) ≡ slice_index old.store.live.numbers ((at - old.base) / PAGE)
  parts_number was is at before place first last same =
      subst (λ (o : GuestPages). slice_index new.store.live.numbers ((at - o.base) / PAGE) ≡ slice_index o.store.live.numbers ((at - o.base) / PAGE)) was
      (subst (λ (n : GuestPages). slice_index n.store.live.numbers ((at - base) / PAGE) ≡ slice_index store.live.numbers ((at - base) / PAGE)) is (omega (arith, first, last, same)))

pub windows_after : (old new : GuestPages) (at size value : ℕ) (windows : Windows) (b : Bool) → MatchBool b ((permitted 2 (flat old) at size ≡ true) × Puts old at (little_bytes size value) new) (new ≡ old) → new.store.live.numbers ≡ old.store.live.numbers → AreWindows old windows → AreWindows new windows
windows_after old new at size value windows true stored same so = windows_stay old new at (little_bytes size value) windows stored.1 (λ page less. ap (λ xs. slice_index xs page) same) so
windows_after old new at size value windows false stored same so = subst (λ (s : GuestPages). AreWindows s windows) (sym stored) so

-- a window that becomes that of a register
pub each_set : (Is : Window → Type 0) (old new : RegisterWindows) (register : ℕ) (window : Window) → ((other : ℕ) → window_of new other ≡ (if other == register then window else window_of old other)) → Is window → EachIs Is old → EachIs Is new
each_set Is old new register window set one all other = subst Is (sym (set other)) (either (other == register))
  where
    either : (b : Bool) → Is (if b then window else window_of old other)
    either true = one
    either false = all other

-- a write that took no frame moved no page
none_copied : (store : Pages) (at count pages : ℕ) → copied_pages store at count pages ≡ 0 → (page : ℕ) → page < pages → (reaches at count page && is_shared store page) ≡ false
none_copied store at count zero none page less = absurd (omega (arith, less))
none_copied store at count (suc last) none page less = elim (cases_eq page last) [
  | inl here ↦ subst (λ n. (reaches at count n && is_shared store n) ≡ false) (sym here) (not_counted (reaches at count last && is_shared store last) none)
  | inr other ↦ none_copied store at count last (fewer (reaches at count last && is_shared store last) none) page (omega (arith, less, other))
]
  where
    not_counted : (b : Bool) → copied_pages store at count last + (if b then 1 else 0) ≡ 0 → b ≡ false
    not_counted true sum = absurd (omega (arith, sum))
    not_counted false sum = refl

    fewer : (b : Bool) → copied_pages store at count last + (if b then 1 else 0) ≡ 0 → copied_pages store at count last ≡ 0
    fewer b sum = omega (arith, sum)

pub numbers_kept : (old new : Pages) (at : ℕ) (bytes : List ℕ) → Writes old new at bytes → used_of new ≡ used_of old → (page : ℕ) → page < old.pages → slice_index new.live.numbers page ≡ slice_index old.live.numbers page
numbers_kept old new at bytes wrote same page less =
    let taken = wrote.used in
    let none : copied_pages old at (length bytes) old.pages ≡ 0 = omega (arith, taken, same) in
    subst (λ b. NumberAfter b old page (slice_index new.live.numbers page)) (none_copied old at (length bytes) old.pages none page less) (wrote.numbers page less)
