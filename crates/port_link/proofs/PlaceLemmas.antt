-- One connection of several has another stage, or is closed.
use Rattle.std.specs.List.{prefix_len}
use Rattle.port_link.proofs.Terms.{Bool, List, None, Some, [], ap, arith, cond, false, if◌then◌else◌, inl, inr, length, nat_lt, not, refl, subst, suc, sym, true, zero, ℕ, ◌++◌, ◌+◌, ◌<◌, ◌==◌, ◌∙◌, ◌∷◌, ◌≡◌, ◌≢◌, ◌≤◌, ◌⊎◌, cases_lt, eq-eqb, eqb-false, eqb-true, lt-ltb, ltb-true, ne_eqb, get_or-set_other, get_or-set_same, get_or_append_left, get_or_past, get_or_push, length-append, same_Some, slice_index_or, slice_set, open_within, is_open, without, Closing, Stage, Broken, Closed, Dropped, Ended, Open, Unopened, first_broken, is_broken, is_done, is_present, shown, stage_in, with_stage, IsClosing, NoOther}
use Rattle.port_link.specs.declared.place.Closing.TheVariants as closing

pub number_cases : (i j : ℕ) → (i ≡ j) ⊎ (i ≢ j)
number_cases i j = in_case (i == j) refl
  where
    in_case : (test : Bool) → (i == j) ≡ test → (i ≡ j) ⊎ (i ≢ j)
    in_case true is = inl (eqb-true i j is)
    in_case false is = inr (eqb-false i j is)

pick_first : {X : Type 0} (test : Bool) (x y : X) → test ≡ true → (if test then x else y) ≡ x
pick_first true x y is = refl
pick_first false x y is = cc

pick_second : {X : Type 0} (test : Bool) (x y : X) → test ≡ false → (if test then x else y) ≡ y
pick_second true x y is = cc
pick_second false x y is = refl

pub same_if : {X : Type 0} (i j : ℕ) (x y : X) → i ≡ j → (if i == j then x else y) ≡ x
same_if i j x y same = pick_first (i == j) x y (eq-eqb i j same)

pub other_if : {X : Type 0} (i j : ℕ) (x y : X) → i ≢ j → (if i == j then x else y) ≡ y
other_if i j x y differ = pick_second (i == j) x y (ne_eqb i j differ)

pub commute : {X Y : Type 0} (f : X → Y) (test : Bool) (x y : X) → f (if test then x else y) ≡ (if test then f x else f y)
commute f true x y = refl
commute f false x y = refl

pub both_if : {X : Type 0} (test : Bool) (x y z w : X) → x ≡ z → y ≡ w → (if test then x else y) ≡ (if test then z else w)
both_if true x y z w one two = one
both_if false x y z w one two = two

pub set_at : {X : Type 0} (xs : List X) (i : ℕ) (y d : X) → i < length xs → (j : ℕ) → slice_index_or (slice_set xs i y) j d ≡ (if j == i then y else slice_index_or xs j d)
set_at xs i y d less j = elim (number_cases j i) [
  | inl same ↦ ap (λ (k : ℕ). slice_index_or (slice_set xs i y) k d) same ∙ get_or-set_same xs i y d less ∙ sym (same_if j i y (slice_index_or xs j d) same)
  | inr differ ↦ get_or-set_other xs i j y d differ ∙ sym (other_if j i y (slice_index_or xs j d) differ)
]

pub push_at : {X : Type 0} (xs : List X) (y d : X) (j : ℕ) → slice_index_or (xs ++ y ∷ []) j d ≡ (if j == length xs then y else slice_index_or xs j d)
push_at xs y d j = elim (number_cases j (length xs)) [
  | inl same ↦ ap (λ (k : ℕ). slice_index_or (xs ++ y ∷ []) k d) same ∙ get_or_push xs y d (length xs) refl ∙ sym (same_if j (length xs) y (slice_index_or xs j d) same)
  | inr differ ↦ beside differ ∙ sym (other_if j (length xs) y (slice_index_or xs j d) differ)
]
  where
    beside : j ≢ length xs → slice_index_or (xs ++ y ∷ []) j d ≡ slice_index_or xs j d
    beside differ = elim (cases_lt j (length xs)) [
      | inl less ↦ get_or_append_left xs (y ∷ []) d j less
      | inr past ↦ get_or_past (xs ++ y ∷ []) j d (let size = length-append xs (y ∷ []) in omega arith) ∙ sym (get_or_past xs j d past)
    ]

-- another stage for one connection
pub stage_set : (stages : List Stage) (conn : ℕ) (stage : Stage) → conn < length stages → (other : ℕ) → stage_in (slice_set stages conn stage) other ≡ with_stage conn stage (stage_in stages) other
stage_set stages conn stage less other = set_at stages conn stage Unopened less other

-- the stages that calls lead to
pub shown_set : (stages : List Stage) (conn : ℕ) (stage was : Stage) (f : ℕ → Stage) → conn < length stages → was ≡ shown stage → ((c : ℕ) → f c ≡ shown (stage_in stages c)) → (other : ℕ) → with_stage conn was f other ≡ shown (stage_in (slice_set stages conn stage) other)
shown_set stages conn stage was f less is at other =
    both_if (other == conn) was (f other) (shown stage) (shown (stage_in stages other)) is (at other)
    ∙ sym (commute shown (other == conn) stage (stage_in stages other)) ∙ ap shown (sym (stage_set stages conn stage less other))

-- what is the same of the one stage and the other is the same of all
pub keeps_set : {Y : Type 0} (f : Stage → Y) (stages : List Stage) (conn : ℕ) (stage : Stage) → conn < length stages → f stage ≡ f (stage_in stages conn) → (other : ℕ) → f (stage_in (slice_set stages conn stage) other) ≡ f (stage_in stages other)
keeps_set f stages conn stage less is other = elim (number_cases other conn) [
  | inl same ↦ ap (λ (k : ℕ). f (stage_in (slice_set stages conn stage) k)) same ∙ ap f (get_or-set_same stages conn stage Unopened less) ∙ is ∙ ap (λ (k : ℕ). f (stage_in stages k)) (sym same)
  | inr differ ↦ ap f (get_or-set_other stages conn other stage Unopened differ)
]

-- what holds of all but one, and of its new stage, holds of all
pub all_set : {Y : Type 0} (f : Stage → Y) (y : Y) (stages : List Stage) (conn : ℕ) (stage : Stage) → conn < length stages → f stage ≡ y → ((other : ℕ) → other ≢ conn → f (stage_in stages other) ≡ y) → (other : ℕ) → f (stage_in (slice_set stages conn stage) other) ≡ y
all_set f y stages conn stage less is others other = elim (number_cases other conn) [
  | inl same ↦ ap (λ (k : ℕ). f (stage_in (slice_set stages conn stage) k)) same ∙ ap f (get_or-set_same stages conn stage Unopened less) ∙ is
  | inr differ ↦ ap f (get_or-set_other stages conn other stage Unopened differ) ∙ others other differ
]

-- the connections of the port, behind an accept and behind a close
pub present_opened : (connections : List Bool) (stages : List Stage) (conn : ℕ) → conn < length stages → length connections ≡ conn → ((c : ℕ) → is_open c connections ≡ is_present (stage_in stages c)) → (other : ℕ)
    → is_open other (connections ++ true ∷ []) ≡ is_present (stage_in (slice_set stages conn Open) other)
present_opened connections stages conn less at is other =
    push_at connections true false other ∙ ap (λ (n : ℕ). if other == n then true else is_open other connections) at
    ∙ both_if (other == conn) true (is_open other connections) true (is_present (stage_in stages other)) refl (is other)
    ∙ sym (commute is_present (other == conn) Open (stage_in stages other)) ∙ ap is_present (sym (stage_set stages conn Open less other))

pub present_closed : (connections : List Bool) (stages : List Stage) (conn : ℕ) (stage : Stage) → conn < length stages → is_open conn connections ≡ true → is_present stage ≡ false
    → ((c : ℕ) → is_open c connections ≡ is_present (stage_in stages c)) → (other : ℕ) → is_open other (without conn connections) ≡ is_present (stage_in (slice_set stages conn stage) other)
present_closed connections stages conn stage less here gone is other =
    set_at connections conn false false (open_within connections conn here) other
    ∙ both_if (other == conn) false (is_open other connections) (is_present stage) (is_present (stage_in stages other)) (sym gone) (is other)
    ∙ sym (commute is_present (other == conn) stage (stage_in stages other)) ∙ ap is_present (sym (stage_set stages conn stage less other))

picked : (test : Bool) (k n : ℕ) → cond test (Some k) None ≡ Some n → (test ≡ true) × (k ≡ n)
picked true k n is = (refl, same_Some k n is)
picked false k n is = cc

unpicked : (test : Bool) (k : ℕ) → cond test (Some k) None ≡ None → test ≡ false
unpicked true k is = cc
unpicked false k is = refl

-- how many at the front aren't broken
abbrev sound_front : List Stage → ℕ
sound_front stages = prefix_len (λ (stage : Stage). not (is_broken stage)) stages

next_in : (stage : Stage) (stages : List Stage) (k : ℕ) → stage_in (stage ∷ stages) (1 + k) ≡ stage_in stages k
next_in stage stages k = let e : 1 + k ≡ suc k = omega arith in ap (λ (n : ℕ). stage_in (stage ∷ stages) n) e

front_broken : (stages : List Stage) → sound_front stages < length stages → is_broken (stage_in stages (sound_front stages)) ≡ true
front_broken [] less = absurd (omega arith)
front_broken (Unopened ∷ stages) less = ap is_broken (next_in Unopened stages (sound_front stages)) ∙ front_broken stages (omega arith)
front_broken (Open ∷ stages) less = ap is_broken (next_in Open stages (sound_front stages)) ∙ front_broken stages (omega arith)
front_broken (Ended ∷ stages) less = ap is_broken (next_in Ended stages (sound_front stages)) ∙ front_broken stages (omega arith)
front_broken (Broken ∷ stages) less = refl
front_broken (Dropped ∷ stages) less = ap is_broken (next_in Dropped stages (sound_front stages)) ∙ front_broken stages (omega arith)
front_broken (Closed ∷ stages) less = ap is_broken (next_in Closed stages (sound_front stages)) ∙ front_broken stages (omega arith)

front_whole : (stages : List Stage) → length stages ≤ sound_front stages → (conn : ℕ) → is_broken (stage_in stages conn) ≡ false
front_whole [] past conn = refl
front_whole (Unopened ∷ stages) past zero = refl
front_whole (Unopened ∷ stages) past (suc conn) = front_whole stages (omega arith) conn
front_whole (Open ∷ stages) past zero = refl
front_whole (Open ∷ stages) past (suc conn) = front_whole stages (omega arith) conn
front_whole (Ended ∷ stages) past zero = refl
front_whole (Ended ∷ stages) past (suc conn) = front_whole stages (omega arith) conn
front_whole (Broken ∷ stages) past conn = absurd (let no : ⊥ = omega arith in no)
front_whole (Dropped ∷ stages) past zero = refl
front_whole (Dropped ∷ stages) past (suc conn) = front_whole stages (omega arith) conn
front_whole (Closed ∷ stages) past zero = refl
front_whole (Closed ∷ stages) past (suc conn) = front_whole stages (omega arith) conn

-- the first connection to which a give failed, if there is one
pub broken_found : (stages : List Stage) (n : ℕ) → first_broken stages ≡ Some n → (is_broken (stage_in stages n) ≡ true) × (n < length stages)
broken_found stages n is =
    let parts = picked (nat_lt (sound_front stages) (length stages)) (sound_front stages) n is in
    let less : sound_front stages < length stages = ltb-true (sound_front stages) (length stages) parts.0 in
    subst (λ (k : ℕ). (is_broken (stage_in stages k) ≡ true) × (k < length stages)) parts.1 (front_broken stages less, less)

pub none_broken : (stages : List Stage) → first_broken stages ≡ None → (conn : ℕ) → is_broken (stage_in stages conn) ≡ false
none_broken stages is =
    let no = unpicked (nat_lt (sound_front stages) (length stages)) (sound_front stages) is in
    front_whole stages (elim (cases_lt (sound_front stages) (length stages)) [
      | inl less ↦ (let yes : true ≡ false = sym (lt-ltb (sound_front stages) (length stages) less) ∙ no in cc)
      | inr past ↦ past
    ])

-- which connection's close was answered last, by cases
abbrev pub Closes : Closing → List Stage → Type 0
Closes closing.Nothing stages = (conn : ℕ) → is_done (stage_in stages conn) ≡ false
Closes (closing.Due conn) stages = (stage_in stages conn ≡ Ended) × NoOther conn stages
Closes (closing.Made conn) stages = (stage_in stages conn ≡ Dropped) × NoOther conn stages

pub closes_from : (last : Closing) (stages : List Stage) → IsClosing last stages → Closes last stages
closes_from closing.Nothing stages there = there.nothing refl
closes_from (closing.Due conn) stages there = (there.due conn refl, there.due_alone conn refl)
closes_from (closing.Made conn) stages there = (there.made conn refl, there.made_alone conn refl)

abbrev number_of : Closing → ℕ
number_of closing.Nothing = 0
number_of (closing.Due conn) = conn
number_of (closing.Made conn) = conn

pub closes_to : (last : Closing) (stages : List Stage) → Closes last stages → IsClosing last stages
closes_to closing.Nothing stages there = record { nothing = λ is. there; due = λ conn is. cc; due_alone = λ conn is. absurd (let no : ⊥ = cc in no); made = λ conn is. cc; made_alone = λ conn is. absurd (let no : ⊥ = cc in no) }
closes_to (closing.Due conn) stages there = record {
  nothing = λ is. absurd (let no : ⊥ = cc in no);
  due = λ other is. subst (λ (n : ℕ). stage_in stages n ≡ Ended) (ap number_of is) there.0;
  due_alone = λ other is. subst (λ (n : ℕ). NoOther n stages) (ap number_of is) there.1;
  made = λ other is. cc;
  made_alone = λ other is. absurd (let no : ⊥ = cc in no);
}
closes_to (closing.Made conn) stages there = record {
  nothing = λ is. absurd (let no : ⊥ = cc in no);
  due = λ other is. cc;
  due_alone = λ other is. absurd (let no : ⊥ = cc in no);
  made = λ other is. subst (λ (n : ℕ). stage_in stages n ≡ Dropped) (ap number_of is) there.0;
  made_alone = λ other is. subst (λ (n : ℕ). NoOther n stages) (ap number_of is) there.1;
}
