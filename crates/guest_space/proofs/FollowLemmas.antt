-- Windows of a page that is copied to another frame.
use Rattle.guest_space.proofs.Terms.{List, ap, arith, inl, inr, length, refl, subst, suc, sym, zero, ℕ, ◌%◌, ◌&&◌, ◌*◌, ◌+◌, ◌-◌, ◌/◌, ◌<◌, ◌^◌, ◌∙◌, ◌≡◌, ◌≤◌, ◌⊎◌, cases_eq, cases_lt, le-leb, le-ltb, lt-leb, lt-ltb, get_or_past, slice_index, PAGE, Pages, NumberAfter, is_shared, reaches, Table, RegisterWindows, Window, Windows, GuestPages, IsLawfulSpace, Span, guest_pages, Puts, AreWindows, EachIs, IsLoadWindow, IsStoreWindow, IsWindow, WritesPage, follow, followed, load_window, window_of}
use Rattle.guest_space.proofs.WindowLemmas.{number_elsewhere, page_within, same_window, store_window_stays, windows_stay, none_is}

-- the address behind one that has three more of its page
next_page : (start base away : ℕ) → (start + away - base) % PAGE + 4 ≤ PAGE → (start + suc away - base) / PAGE ≡ (start + away - base) / PAGE
next_page start base away within = omega arith

-- all addresses of a window are of the page of the first one
one_page : (flag base : ℕ) (spans : List Span) (store : Pages) (window : Window) → IsWindow flag base spans store window → (away : ℕ) → away < window.count → (window.start + away - base) / PAGE ≡ (window.start + 0 - base) / PAGE
one_page flag base spans store window so zero less = refl
one_page flag base spans store window so (suc away) less =
    let near : away < window.count = omega (arith, less) in
    next_page window.start base away (so.stands away near).within ∙ one_page flag base spans store window so away near

-- a place of the frame goes with it
inside_goes : (from to place : ℕ) → from ≤ place → place < from + PAGE → followed from to place ≡ to + (place - from)
inside_goes from to place low high = rw (le-leb from place low, lt-ltb place (from + PAGE) high) refl

-- any other place stays
before_stays : (from to place : ℕ) → place < from → followed from to place ≡ place
before_stays from to place low = rw (lt-leb from place low) refl

behind_stays : (from to place : ℕ) → from + PAGE ≤ place → followed from to place ≡ place
behind_stays from to place high = rw (le-leb from place (omega arith), le-ltb place (from + PAGE) high) refl

other_stays : (from to place here there offset : ℕ) → from ≡ PAGE * here → place ≡ PAGE * there + offset → offset < PAGE → (there ≡ here → ⊥) → followed from to place ≡ place
other_stays from to place here there offset first is small other = elim (cases_lt there here) [
  | inl less ↦ before_stays from to place (omega (arith, first, is, small, less))
  | inr more ↦ behind_stays from to place (omega (arith, first, is, small, more, other))
]

module _ (old new : GuestPages) (at : ℕ) (bytes : List ℕ) (from to : ℕ) (wrote : WritesPage old at bytes new from to) where
  -- a window of the page goes with it, and any other one stays
  window_goes : to + PAGE ≤ 2 ^ 32 → (window : Window) → IsLoadWindow old window → IsLoadWindow new (follow from to window)
  window_goes room window is =
      let put = wrote.put in
      subst (λ n. IsWindow 4 n new.spans new.store (follow from to window)) (sym put.base_stays) (subst (λ xs. IsWindow 4 old.base xs new.store (follow from to window)) (sym put.spans_stay) record {
        below = is.below;
        small = fits window.count refl;
        held = is.held;
        stands = λ away less. record {
          inside = subst (λ n. window.start + away - old.base < PAGE * n) (sym put.pages.pages) (is.stands away less).inside;
          within = (is.stands away less).within;
          place_is = goes away less (cases_eq (page_at 0) page);
        };
      })
    where
      first : from ≡ PAGE * slice_index old.store.live.numbers ((at - old.base) / PAGE)
      first = wrote.from_is

      last : to ≡ PAGE * slice_index new.store.live.numbers ((at - old.base) / PAGE)
      last = wrote.to_is

      page : ℕ
      page = (at - old.base) / PAGE

      page_at : ℕ → ℕ
      page_at away = (window.start + away - old.base) / PAGE

      number : ℕ → ℕ
      number n = slice_index old.store.live.numbers n

      next : ℕ → ℕ
      next n = slice_index new.store.live.numbers n

      same : (away : ℕ) → away < window.count → page_at away ≡ page_at 0
      same away less = one_page 4 old.base old.spans old.store window is away less

      inside : (away : ℕ) → away < window.count → page_at 0 ≡ page → followed from to window.place ≡ to + (window.place - from)
      inside away less of =
          let none : 0 < window.count = omega (arith, less) in
          let start = (is.stands 0 none).place_is in
          let n : number (page_at 0) ≡ number page = ap number of in
          inside_goes from to window.place (omega (arith, start, n, first)) (omega (arith, start, n, first))

      goes : (away : ℕ) → (less : away < window.count) → (page_at 0 ≡ page) ⊎ (page_at 0 ≡ page → ⊥) → followed from to window.place + away ≡ PAGE * next (page_at away) + (window.start + away - old.base) % PAGE
      goes away less (inl of) =
          let none : 0 < window.count = omega (arith, less) in
          let start = (is.stands 0 none).place_is in
          let there = (is.stands away less).place_is in
          let n : number (page_at away) ≡ number page = ap number (same away less ∙ of) in
          let m : next (page_at away) ≡ next page = ap next (same away less ∙ of) in
          let k : number (page_at 0) ≡ number page = ap number of in
          let place = inside away less of in
          omega (arith, place, start, there, n, m, k, first, last)
      goes away less (inr other) =
          let none : 0 < window.count = omega (arith, less) in
          let start = (is.stands 0 none).place_is in
          let there = (is.stands away less).place_is in
          let near : page_at 0 < old.store.pages = page_within (window.start + 0 - old.base) old.store.pages (is.stands 0 none).inside in
          let elsewhere : page_at away ≡ page → ⊥ = λ e. other (sym (same away less) ∙ e) in
          let n : next (page_at away) ≡ number (page_at away) = number_elsewhere old.store new.store (at - old.base) bytes (page_at away) wrote.put.pages (page_within (window.start + away - old.base) old.store.pages (is.stands away less).inside) wrote.within elsewhere in
          let many = (wrote.lawful.store.spaces old.store.live (inl refl)).numbers in
          let apart : number (page_at 0) ≡ number page → ⊥ = λ e. other (wrote.lawful.store.agree old.store.live old.store.live (inl refl) (inl refl) (page_at 0) page (omega (arith, near, many)) (omega (arith, wrote.inside, many)) e).0 in
          let place : followed from to window.place ≡ window.place = other_stays from to window.place (number page) (number (page_at 0)) ((window.start + 0 - old.base) % PAGE) first (omega (arith, start)) (omega arith) apart in
          omega (arith, place, there, n)

      fits : (count : ℕ) → window.count ≡ count → followed from to window.place + window.count ≤ 2 ^ 32
      fits zero is_none = elim (cases_lt window.place from) [
        | inl low ↦ (let place = before_stays from to window.place low in omega (arith, place, is.small))
        | inr high ↦ elim (cases_lt window.place (from + PAGE)) [
          | inl less ↦ (let place = inside_goes from to window.place high less in omega (arith, place, room, is_none, less, high))
          | inr more ↦ (let place = behind_stays from to window.place more in omega (arith, place, is.small))
        ]
      ]
      fits (suc count) some =
          let none : 0 < window.count = omega (arith, some) in
          let less : count < window.count = omega (arith, some) in
          let start = (is.stands 0 none).place_is in
          let end = (is.stands count less).place_is in
          let end_within = (is.stands count less).within in
          elim (cases_lt window.place from) [
            | inl low ↦ (let place = before_stays from to window.place low in omega (arith, place, is.small))
            | inr high ↦ elim (cases_lt window.place (from + PAGE)) [
              | inl near ↦ (let place = inside_goes from to window.place high near in
                  let n : number (page_at count) ≡ number (page_at 0) = ap number (same count less) in
                  omega (arith, place, room, some, near, high, start, end, end_within, n, first))
              | inr more ↦ (let place = behind_stays from to window.place more in omega (arith, place, is.small))
            ]
          ]

  -- the windows after that
  pub windows_go : (windows after : Windows) → to + PAGE ≤ 2 ^ 32
      → ((register : ℕ) → register < 40 → load_window after register ≡ follow from to (load_window windows register)) → ((register : ℕ) → 40 ≤ register → load_window after register ≡ record { start = 0; count = 0; place = 0 })
      → after.stores ≡ windows.stores → AreWindows old windows → AreWindows new after
  windows_go windows after room loads past stores are = record {
    loads = λ register. elim (cases_lt register 40) [
      | inl less ↦ subst (IsLoadWindow new) (sym (loads register less)) (window_goes room (load_window windows register) (are.loads register))
      | inr more ↦ subst (IsLoadWindow new) (sym (past register more)) (none_is 4 new.base new.spans new.store)
    ];
    stores = subst (EachIs (IsStoreWindow new)) (sym stores) (λ register. store_window_stays old new at bytes wrote.put (window_of windows.stores register) (are.stores register));
  }

-- a frame that stays where it was takes no place elsewhere
same_place : (from place : ℕ) → followed from from place ≡ place
same_place from place = elim (cases_lt place from) [
  | inl low ↦ before_stays from from place low
  | inr high ↦ elim (cases_lt place (from + PAGE)) [
    | inl less ↦ (let is = inside_goes from from place high less in omega (arith, is, high))
    | inr more ↦ behind_stays from from place more
  ]
]

pub same_window_goes : (from : ℕ) (window : Window) → follow from from window ≡ window
same_window_goes from window = ap (λ n. record { start = window.start; count = window.count; place = n }) (same_place from window.place)

-- a window past the last register
pub past_last : (windows : RegisterWindows) (register : ℕ) → length windows.starts ≡ 40 → length windows.counts ≡ 40 → length windows.places ≡ 40 → 40 ≤ register → window_of windows register ≡ record { start = 0; count = 0; place = 0 }
past_last windows register starts counts places past =
    same_window (window_of windows register) record { start = 0; count = 0; place = 0 } (get_or_past windows.starts register 0 (omega (arith, starts, past))) (get_or_past windows.counts register 0 (omega (arith, counts, past))) (get_or_past windows.places register 0 (omega (arith, places, past)))

-- the windows where the page stays in its frame
pub windows_rest : (old new : GuestPages) (at : ℕ) (bytes : List ℕ) (from to : ℕ) (windows : Windows) → WritesPage old at bytes new from to → from ≡ to → to + PAGE ≤ 2 ^ 32 → AreWindows old windows → AreWindows new windows
windows_rest old new at bytes from to windows wrote same room are = record {
  loads = λ register. rests (window_of windows.loads register) (are.loads register);
  stores = λ register. store_window_stays old new at bytes wrote.put (window_of windows.stores register) (are.stores register);
}
  where
    rests : (window : Window) → IsLoadWindow old window → IsLoadWindow new window
    rests window is = subst (IsLoadWindow new) (subst (λ n. follow from n window ≡ window) same (same_window_goes from window)) (window_goes old new at bytes from to wrote room window is)

-- what is known of a write in one page of two spaces that are seen as their parts
module _ (old new : GuestPages) (base other : ℕ) (spans more : List Span) (store after : Pages) (code table : Table) where
  pub parts_page : guest_pages base spans store code ≡ old → guest_pages other more after table ≡ new → (at : ℕ) (bytes : List ℕ) → Puts old at bytes new → IsLawfulSpace (guest_pages base spans store code) → (at - base) % PAGE + length bytes ≤ PAGE → at - base < PAGE * store.pages
      → (before place : ℕ) → before ≡ PAGE * slice_index store.live.numbers ((at - base) / PAGE) + (at - base) % PAGE → place ≡ PAGE * slice_index after.live.numbers ((at - base) / PAGE) + (at - base) % PAGE → WritesPage old at bytes new (before - (at - base) % PAGE) (place - (at - base) % PAGE)
  parts_page was is at bytes put so within inside before place first last = record {
    put = put;
    lawful = subst IsLawfulSpace was so;
    within = subst (λ (s : GuestPages). (at - s.base) % PAGE + length bytes ≤ PAGE) was within;
    inside = subst (λ (s : GuestPages). (at - s.base) / PAGE < s.store.pages) was (page_within (at - base) store.pages inside);
    from_is = subst (λ (s : GuestPages). before - (at - base) % PAGE ≡ PAGE * slice_index s.store.live.numbers ((at - s.base) / PAGE)) was (omega (arith, first));
    to_is = subst (λ (s : GuestPages). place - (at - base) % PAGE ≡ PAGE * slice_index new.store.live.numbers ((at - s.base) / PAGE)) was
        (subst (λ (s : GuestPages). place - (at - base) % PAGE ≡ PAGE * slice_index s.store.live.numbers ((at - base) / PAGE)) is (omega (arith, last)));
  }

-- the windows where nothing was written
pub windows_unwritten : (old new : GuestPages) (at : ℕ) (bytes : List ℕ) (windows : Windows) → Puts old at bytes new → length bytes ≡ 0 → AreWindows old windows → AreWindows new windows
windows_unwritten old new at bytes windows put none are = windows_stay old new at bytes windows put kept are
  where
    kept : (page : ℕ) → page < old.store.pages → slice_index new.store.live.numbers page ≡ slice_index old.store.live.numbers page
    kept page less = subst (λ b. NumberAfter b old.store page (slice_index new.store.live.numbers page)) (ap (λ n. reaches (at - old.base) n page && is_shared old.store page) none) (put.pages.numbers page less)
