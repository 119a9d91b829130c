-- The first bytes of a new block, and what is carried behind them.
use Rattle.block_book.specs.Block.{touched}
use Rattle.guest_cpu.proofs.Terms.{Bool, Contains, List, None, Option, Some, [], ap, arith, cond, eqb, false, inl, inr, length, max, nat_le, not, refl, replicate, subst, sym, true, ℕ, ◌&&◌, ◌*◌, ◌++◌, ◌+◌, ◌-◌, ◌<◌, ◌^◌, ◌||◌, ◌∙◌, ◌∷◌, ◌≡◌, ◌≢◌, ◌≤◌, ◌⊎◌, and_parts, cases_Bool, cases_lt, eqb-true, or_cases, nat_tests, length-replicate, All-contains, nat_lt, unwrap_or, Ask, Choice, apart-of_clear, same-is, size-within, bytes_asked, is_allowed, is_block, is_calloc, is_clear, kept_count, live_blocks, may_carry, moved_count, replaced, same_ask, size_at, is_apart, lies_in, Heap, IsHeap, PAGE, bytes_at, permitted, put_bytes, read, length-set_bytes, length-bytes_at, moved_bytes, set_bytes, set_count, Machine, buffer, is_permitted, puts_more, Puts, GuestPages, IsLawfulSpace, LiesIn, blank_span, flat, set_range, Wrote}
use Rattle.guest_cpu.specs.Placing.{IsAnswered}
use Rattle.guest_cpu.proofs.HeapLemmas.{heap_permits}

-- an answer that isn't null, by its parts
pub record IsPlaced (start end : ℕ) (live : List (ℕ × ℕ)) (ask : Ask) (choice : Choice) : Type 0 where
  pub asked : choice.ask ≡ ask
  pub few : bytes_asked choice.ask < 2 ^ 32
  pub clear : is_clear start end live choice.at (bytes_asked choice.ask) ≡ true

pub is_placed : (start end : ℕ) (live : List (ℕ × ℕ)) (ask : Ask) (choice : Choice) → is_allowed start end live ask choice ≡ true → choice.at ≢ 0 → IsPlaced start end live ask choice
unfolding is_allowed is_block
is_placed start end live ask choice ok some =
    let test : eqb choice.at 0 ≡ false = grind arith in
    let inside : Bool = nat_lt (bytes_asked choice.ask) (2 ^ 32) && is_clear start end live choice.at (bytes_asked choice.ask) && (choice.zeroed || not (is_calloc choice.ask)) in
    let carries : Bool = (eqb choice.carried 0) || may_carry start end live choice (replaced choice.ask) in
    let asked = and_parts (same_ask choice.ask ask) (inside && carries) (rw test at ok) in
    let block = and_parts (nat_lt (bytes_asked choice.ask) (2 ^ 32) && is_clear start end live choice.at (bytes_asked choice.ask)) (choice.zeroed || not (is_calloc choice.ask)) (and_parts inside carries asked.1).0 in
    let parts = and_parts (nat_lt (bytes_asked choice.ask) (2 ^ 32)) (is_clear start end live choice.at (bytes_asked choice.ask)) block.0 in
    let few = parts.0 in
    record { asked = same-is choice.ask ask asked.0; few = grind (arith, nat_tests); clear = parts.1 }

-- each answer is one to the ask
pub allowed_asked : (start end : ℕ) (live : List (ℕ × ℕ)) (ask : Ask) (choice : Choice) → is_allowed start end live ask choice ≡ true → choice.ask ≡ ask
unfolding is_allowed
allowed_asked start end live ask choice ok =
    same-is choice.ask ask (and_parts (same_ask choice.ask ask) (((eqb choice.at 0) && not choice.zeroed && (eqb choice.carried 0)) || is_block start end live choice) ok).0

-- it carries nothing, or may carry what it does
abbrev pub CarriesFor : ℕ → ℕ → List (ℕ × ℕ) → Choice → Option ℕ → Type 0
CarriesFor start end live choice over = (choice.carried ≡ 0) ⊎ (may_carry start end live choice over ≡ true)

pub carries_for : (start end : ℕ) (live : List (ℕ × ℕ)) (ask : Ask) (choice : Choice) → is_allowed start end live ask choice ≡ true → CarriesFor start end live choice (replaced choice.ask)
unfolding is_allowed is_block
carries_for start end live ask choice ok =
    let null : Bool = (eqb choice.at 0) && not choice.zeroed in
    let inside : Bool = nat_lt (bytes_asked choice.ask) (2 ^ 32) && is_clear start end live choice.at (bytes_asked choice.ask) && (choice.zeroed || not (is_calloc choice.ask)) in
    let none : Bool = eqb choice.carried 0 in
    let may : Bool = may_carry start end live choice (replaced choice.ask) in
    elim (or_cases (null && none) (inside && (none || may)) (and_parts (same_ask choice.ask ask) ((null && none) || (inside && (none || may))) ok).1) [
      | inl is ↦ inl (eqb-true choice.carried 0 (and_parts null none is).1)
      | inr is ↦ elim (or_cases none may (and_parts inside (none || may) is).1) [
        | inl never ↦ inl (eqb-true choice.carried 0 never)
        | inr carries ↦ inr carries
      ]
    ]

-- a block that is clear lies in the heap
pub clear_within : (start end at size : ℕ) (live : List (ℕ × ℕ)) → is_clear start end live at size ≡ true → (start ≤ at) × (at + size ≤ end)
unfolding is_clear
clear_within start end at size live clear = (grind (arith, nat_tests), grind (arith, nat_tests))

-- none are kept where there is no live block
kept_none : (heap : Heap) (size kept old : ℕ) → kept ≡ kept_count (live_blocks heap.blocks) size (Some old) → size_at old (live_blocks heap.blocks) ≡ None → kept ≡ 0
kept_none heap size kept old kept_is e =
    let none : unwrap_or (size_at old (live_blocks heap.blocks)) 0 ≡ 0 = rw e refl in
    omega arith

kept_some : (heap : Heap) (size kept old count : ℕ) → kept ≡ kept_count (live_blocks heap.blocks) size (Some old) → size_at old (live_blocks heap.blocks) ≡ Some count → (kept ≤ count) × (kept ≤ size)
kept_some heap size kept old count kept_is e =
    let is : unwrap_or (size_at old (live_blocks heap.blocks)) 0 ≡ count = rw e refl in
    (omega arith, omega arith)

-- So many bytes come from one address of a heap to another: none, or they lie in it where they stand; they lie in it where they go, and there are none
-- of those that come.
pub record Comes (start end from came at : ℕ) : Type 0 where
  pub source : (came ≡ 0) ⊎ ((start ≤ from) × (from + came ≤ end))
  pub target : at + came ≤ end
  pub apart : (from + came ≤ at) ⊎ (at + came ≤ from)

comes_none : (start end from came at size : ℕ) (live : List (ℕ × ℕ)) → is_clear start end live at size ≡ true → came ≡ 0 → Comes start end from came at
comes_none start end from came at size live clear none =
    let within = clear_within start end at size live clear in
    record {
      source = inl none;
      target = omega (arith, within.1, none);
      apart = elim (cases_lt from at) [ inl low ↦ inl (omega arith) | inr high ↦ inr (omega arith) ];
    }

-- where none are carried
comes_kept : (heap : Heap) (size old came at : ℕ) → IsHeap heap → is_clear heap.start heap.end (live_blocks heap.blocks) at size ≡ true → came ≡ kept_count (live_blocks heap.blocks) size (Some old) → Comes heap.start heap.end old came at
comes_kept heap size old came at sound clear is = of_size (size_at old (live_blocks heap.blocks)) refl
  where
    of_size : (found : Option ℕ) → size_at old (live_blocks heap.blocks) ≡ found → Comes heap.start heap.end old came at
    of_size None e = comes_none heap.start heap.end old came at size (live_blocks heap.blocks) clear (kept_none heap size came old is e)
    of_size (Some count) e =
        let few = kept_some heap size came old count is e in
        let within = size-within heap old count sound e in
        let there = clear_within heap.start heap.end at size (live_blocks heap.blocks) clear in
        let apart : (nat_le (at + touched size) old || nat_le (old + touched count) at) ≡ true = apart-of_clear heap.start heap.end at size old count (live_blocks heap.blocks) clear e in
        record {
          source = inr (within.0, omega (arith, within.1, few.0));
          target = omega (arith, there.1, few.1);
          apart = elim (cases_Bool (nat_le (at + touched size) old)) [
            | inl below ↦ inr (let h : at + touched size ≤ old = grind (arith, nat_tests) in omega (arith, few.1))
            | inr above ↦
                let high : nat_le (old + touched count) at ≡ true = rw above at apart in
                inl (let h : old + touched count ≤ at = grind (arith, nat_tests) in omega (arith, few.0))
          ];
        }

-- where some are
lies_so : (at count start end : ℕ) → lies_in at count start end ≡ true → (start ≤ at) × (at + count ≤ end)
lies_so at count start end lies = (grind (arith, nat_tests), grind (arith, nat_tests))

apart_so : (at count from to : ℕ) → is_apart at count from to ≡ true → (at + count ≤ from) ⊎ (to ≤ at)
apart_so at count from to apart =
    elim (cases_Bool (nat_le (at + count) from)) [
      | inl below ↦ inl (grind (arith, nat_tests))
      | inr above ↦ let high : nat_le to at ≡ true = rw above at apart in inr (grind (arith, nat_tests))
    ]

comes_carried : (start end : ℕ) (live : List (ℕ × ℕ)) (choice : Choice) (old came : ℕ) → may_carry start end live choice (Some old) ≡ true → came ≡ moved_count live choice (Some old) → Comes start end old came choice.at
unfolding may_carry
comes_carried start end live choice old came may is =
    let count : ℕ = moved_count live choice (Some old) in
    let parts = and_parts (lies_in old count start end && is_clear start end live choice.at count) (is_apart old count choice.at (choice.at + count)) may in
    let both = and_parts (lies_in old count start end) (is_clear start end live choice.at count) parts.0 in
    subst (λ n. Comes start end old n choice.at) (sym is) (record {
      source = inr (lies_so old count start end both.0);
      target = (clear_within start end choice.at count live both.1).1;
      apart = apart_so old count choice.at (choice.at + count) parts.1;
    })

none_without : (start end : ℕ) (live : List (ℕ × ℕ)) (choice : Choice) → CarriesFor start end live choice None → choice.carried ≡ 0
unfolding may_carry
none_without start end live choice (inl none) = none
none_without start end live choice (inr may) = absurd (cc may)

pub comes : (heap : Heap) (choice : Choice) (over : Option ℕ) (from came : ℕ) → IsHeap heap → is_clear heap.start heap.end (live_blocks heap.blocks) choice.at (bytes_asked choice.ask) ≡ true
    → CarriesFor heap.start heap.end (live_blocks heap.blocks) choice over → came ≡ moved_count (live_blocks heap.blocks) choice over → from ≡ unwrap_or over 0 → Comes heap.start heap.end from came choice.at
comes heap choice None from came sound clear carries is from_is = comes_none heap.start heap.end from came choice.at (bytes_asked choice.ask) (live_blocks heap.blocks) clear is
comes heap choice (Some old) from came sound clear (inl none) is from_is =
    let kept : came ≡ kept_count (live_blocks heap.blocks) (bytes_asked choice.ask) (Some old) = omega (arith, is, none) in
    subst (λ n. Comes heap.start heap.end n came choice.at) (sym from_is) (comes_kept heap (bytes_asked choice.ask) old came choice.at sound clear kept)
comes heap choice (Some old) from came sound clear (inr may) is from_is =
    subst (λ n. Comes heap.start heap.end n came choice.at) (sym from_is) (comes_carried heap.start heap.end (live_blocks heap.blocks) choice old came may is)

-- they may be read
source_read : (space : GuestPages) (start end from came at : ℕ) → IsLawfulSpace space → end < 2 ^ 32 → Contains space.spans (blank_span start end) → Comes start end from came at → from < 2 ^ 32 → permitted read (flat space) from came ≡ true
source_read space start end from came at lawful near there come low =
    elim come.source [
      | inl none ↦ is_permitted read space from came lawful (omega arith) (λ k small. absurd (omega arith))
      | inr within ↦ heap_permits read space start end from came refl lawful there within.0 within.1 (omega arith)
    ]

-- those that are kept, and those that are carried
pub moved_is : (start end : ℕ) (other live : List (ℕ × ℕ)) (choice : Choice) (over : Option ℕ) (kept : ℕ) → CarriesFor start end other choice over → kept ≡ kept_count live (bytes_asked choice.ask) over
    → kept + choice.carried ≡ moved_count live choice over
moved_is start end other live choice None kept carries is = let none = none_without start end other choice carries in omega (arith, none, is)
moved_is start end other live choice (Some old) kept carries is = ap (λ n. n + choice.carried) is

pub moved_small : (start end : ℕ) (live : List (ℕ × ℕ)) (choice : Choice) (over : Option ℕ) (kept : ℕ) → CarriesFor start end live choice over → kept ≡ kept_count live (bytes_asked choice.ask) over → kept < 2 ^ 32 → end < 2 ^ 32
    → kept + choice.carried < 2 ^ 32
moved_small start end live choice None kept carries is small near = let none = none_without start end live choice carries in omega (arith, none)
moved_small start end live choice (Some old) kept (inl none) is small near = omega (arith, none)
moved_small start end live choice (Some old) kept (inr may) is small near =
    elim (comes_carried start end live choice old (kept + choice.carried) may (ap (λ n. n + choice.carried) is)).source [
      | inl none ↦ omega (arith, none)
      | inr within ↦ omega (arith, within.1)
    ]

-- as many bytes are set as this
abbrev pub CountIs : Choice → ℕ → ℕ → Type 0
CountIs choice came count = count ≡ cond (eqb choice.at 0) 0 (cond choice.zeroed (max (bytes_asked choice.ask) came) came)

count_some : (choice : Choice) (came count : ℕ) → CountIs choice came count → count ≢ 0 → choice.at ≢ 0
count_some choice came count is some null =
    let test : eqb choice.at 0 ≡ true = grind arith in
    some (rw test at is)

pub count_is : (choice : Choice) (came count : ℕ) → CountIs choice came count → count ≢ 0 → (choice.at ≢ 0) × (count ≡ cond choice.zeroed (max (bytes_asked choice.ask) came) came)
count_is choice came count is some =
    let there = count_some choice came count is some in
    let test : eqb choice.at 0 ≡ false = grind arith in
    (there, rw test at is)

-- no byte that comes is past those that are set, and these are of the block, or come
pub count_bounds : (zeroed : Bool) (size came count : ℕ) → count ≡ cond zeroed (max size came) came → (came ≤ count) × (count ≤ max size came)
count_bounds true size came count is = (omega arith, omega arith)
count_bounds false size came count is = (omega arith, omega arith)

-- the bytes that come and the zeros behind them are what a new block is set to
bytes_moved : (m : Machine) (choice : Choice) (from came : ℕ) (over : Option ℕ) → came ≡ moved_count m.blocks choice over → from ≡ unwrap_or over 0 → bytes_at read m.memory from came ≡ moved_bytes m choice over
bytes_moved m choice from came None came_is from_is = rw came_is refl
bytes_moved m choice from came (Some old) came_is from_is = rw (came_is, from_is) refl

zeros_behind : (zeroed : Bool) (size came count : ℕ) → count ≡ cond zeroed (max size came) came → replicate {A = ℕ} (count - came) 0 ≡ cond zeroed (replicate {A = ℕ} (size - came) 0) []
zeros_behind true size came count is =
    let same : count - came ≡ size - came = omega arith in
    ap (λ n. replicate {A = ℕ} n 0) same
zeros_behind false size came count is =
    let none : count - came ≡ 0 = omega arith in
    ap (λ n. replicate {A = ℕ} n 0) none

bytes_set : (m : Machine) (choice : Choice) (from came count : ℕ) → came ≡ moved_count m.blocks choice (replaced choice.ask) → from ≡ unwrap_or (replaced choice.ask) 0
    → CountIs choice came count → count ≢ 0 → bytes_at read m.memory from came ++ replicate (count - came) 0 ≡ set_bytes m choice
unfolding set_bytes
bytes_set m choice from came count came_is from_is is some =
    let counted = count_is choice came count is some in
    let there = counted.0 in
    let test : eqb choice.at 0 ≡ false = grind arith in
    let size = bytes_asked choice.ask in
    rw test
    (ap (λ bytes. bytes ++ replicate (count - came) 0) (bytes_moved m choice from came (replaced choice.ask) came_is from_is)
    ∙ ap (λ zeros. moved_bytes m choice (replaced choice.ask) ++ zeros)
    (zeros_behind choice.zeroed size came count counted.1 ∙ ap (λ n. cond choice.zeroed (replicate (size - n) 0) []) came_is))

-- a new block was set
abbrev pub IsSet : Machine → Choice → GuestPages → GuestPages → Type 0
IsSet m choice old new = (flat new ≡ put_bytes m.memory choice.at (set_bytes m choice)) × Wrote (set_range m.blocks choice) old new

set_counted : (m : Machine) (choice : Choice) (came count : ℕ) → came ≡ moved_count m.blocks choice (replaced choice.ask) → CountIs choice came count → set_count m.blocks choice ≡ count
set_counted m choice came count came_is is = ap (λ n. cond (eqb choice.at 0) 0 (cond choice.zeroed (max (bytes_asked choice.ask) n) n)) (sym came_is) ∙ sym is

no_bytes : (bytes : List ℕ) → length bytes ≡ 0 → bytes ≡ []
no_bytes [] e = refl
no_bytes (byte ∷ bytes) e = absurd (omega arith)

pub nothing_set : (m : Machine) (choice : Choice) (came count : ℕ) (space : GuestPages) → m.memory ≡ flat space → came ≡ moved_count m.blocks choice (replaced choice.ask)
    → CountIs choice came count → count ≡ 0 → IsSet m choice space space
nothing_set m choice came count space memory came_is is none =
    let counted = set_counted m choice came count came_is is in
    let zero_set : set_count m.blocks choice ≡ 0 = counted ∙ none in
    let empty = no_bytes (set_bytes m choice) (length-set_bytes m choice ∙ zero_set) in (
      sym (ap (put_bytes m.memory choice.at) empty ∙ memory),
      subst (λ n. Wrote (buffer choice.at n) space space) (sym zero_set) refl,
    )

pub block_set : (m : Machine) (choice : Choice) (from came count : ℕ) (old new : GuestPages) → m.memory ≡ flat old → came ≡ moved_count m.blocks choice (replaced choice.ask)
    → from ≡ unwrap_or (replaced choice.ask) 0 → CountIs choice came count → count ≢ 0
    → Puts old choice.at (bytes_at read (flat old) from came ++ replicate (count - came) 0) new → IsSet m choice old new
block_set m choice from came count old new memory came_is from_is is some puts =
    let counted = set_counted m choice came count came_is is in
    let bytes_are : bytes_at read (flat old) from came ++ replicate (count - came) 0 ≡ set_bytes m choice =
    ap (λ areas. bytes_at read areas from came ++ replicate (count - came) 0) (sym memory) ∙ bytes_set m choice from came count came_is from_is is some in
    let wrote = subst (λ bytes. Puts old choice.at bytes new) bytes_are puts in
    let filled : eqb (set_count m.blocks choice) 0 ≡ false = subst (λ n. eqb n 0 ≡ false) (sym counted) (grind arith) in (
      wrote.memory ∙ ap (λ areas. put_bytes areas choice.at (set_bytes m choice)) (sym memory),
      rw filled (set_bytes m choice, length-set_bytes m choice, wrote),
    )

-- the window has the heap
pub heap_inside : (space : GuestPages) (start end : ℕ) → IsLawfulSpace space → Contains space.spans (blank_span start end) → (space.base ≤ start) × (end ≤ space.base + PAGE * space.store.pages)
heap_inside space start end lawful there =
    let lies = All-contains (LiesIn space.base space.store.pages) space.spans (blank_span start end) lawful.within there in
    (lies.0, lies.2)

-- bytes of a block of the heap and then zeros behind them
pub puts_both : (old mid new : GuestPages) (start end at came count : ℕ) (bytes : List ℕ) → IsLawfulSpace old → Contains old.spans (blank_span start end) → start ≤ at → at + count ≤ end → came ≤ count → length bytes ≡ came
    → Puts old at bytes mid → Puts mid (at + came) (replicate (count - came) 0) new → Puts old at (bytes ++ replicate (count - came) 0) new
puts_both old mid new start end at came count bytes lawful there low high few long one two =
    let inside = heap_inside old start end lawful there in
    let zeros : length (replicate {A = ℕ} (count - came) 0) ≡ count - came = length-replicate (count - came) 0 in
    puts_more old mid new at bytes (replicate (count - came) 0) lawful (omega (arith, inside.0)) (omega (arith, inside.0, inside.1, zeros)) one
    (subst (λ n. Puts mid (at + n) (replicate (count - came) 0) new) (sym long) two)

-- an answer's parts
pub record IsTold (space : GuestPages) (choice : Choice) (kept : ℕ) (answered : IsAnswered space choice kept) : Type 0 where
  pub kept_is : kept ≡ kept_count (live_blocks answered.heap.blocks) (bytes_asked choice.ask) (replaced choice.ask)
  pub carries : CarriesFor answered.heap.start answered.heap.end (live_blocks answered.heap.blocks) choice (replaced choice.ask)
  pub small : kept < 2 ^ 32 → kept + choice.carried < 2 ^ 32

pub is_told : (space : GuestPages) (choice : Choice) (kept : ℕ) (answered : IsAnswered space choice kept) → IsTold space choice kept answered
is_told space choice kept answered =
    let heap = answered.heap in
    let live = live_blocks heap.blocks in
    let asked = allowed_asked heap.start heap.end live answered.ask choice answered.allowed in
    let kept_is : kept ≡ kept_count live (bytes_asked choice.ask) (replaced choice.ask) = subst (λ (ask : Ask). kept ≡ kept_count live (bytes_asked ask) (replaced ask)) (sym asked) answered.kept_is in
    let carries = carries_for heap.start heap.end live answered.ask choice answered.allowed in
    record {
      kept_is = kept_is;
      carries = carries;
      small = λ few. moved_small heap.start heap.end live choice (replaced choice.ask) kept carries kept_is few answered.near;
    }

-- so many bytes come to it, whatever machine these are the live blocks of
pub came_is : (space : GuestPages) (choice : Choice) (kept : ℕ) (live : List (ℕ × ℕ)) → IsAnswered space choice kept → kept ≡ kept_count live (bytes_asked choice.ask) (replaced choice.ask)
    → kept + choice.carried ≡ moved_count live choice (replaced choice.ask)
came_is space choice kept live answered is =
    let heap = answered.heap in
    moved_is heap.start heap.end (live_blocks heap.blocks) live choice (replaced choice.ask) kept (is_told space choice kept answered).carries is

-- a block of which some bytes are to be set: those that come may be read and put, and the others zeroed
pub record IsReady (space : GuestPages) (choice : Choice) (from came count : ℕ) : Type 0 where
  pub few : came ≤ count
  pub near : choice.at + count < 2 ^ 32
  pub source : permitted read (flat space) from came ≡ true
  pub target : permitted 2 (flat space) choice.at came ≡ true
  pub apart : (from + came ≤ choice.at) ⊎ (choice.at + came ≤ from)
  pub zeros : (mid : GuestPages) → IsLawfulSpace mid → mid.spans ≡ space.spans → permitted 2 (flat mid) (choice.at + came) (count - came) ≡ true
  pub both : (mid new : GuestPages) → Puts space choice.at (bytes_at read (flat space) from came) mid → Puts mid (choice.at + came) (replicate (count - came) 0) new
      → Puts space choice.at (bytes_at read (flat space) from came ++ replicate (count - came) 0) new

pub is_ready : (space : GuestPages) (choice : Choice) (from kept count : ℕ) → IsLawfulSpace space → IsAnswered space choice kept → from ≡ unwrap_or (replaced choice.ask) 0 → from < 2 ^ 32
    → CountIs choice (kept + choice.carried) count → count ≢ 0 → IsReady space choice from (kept + choice.carried) count
is_ready space choice from kept count lawful answered from_is low is some =
    let heap = answered.heap in
    let near = answered.near in
    let live = live_blocks heap.blocks in
    let came : ℕ = kept + choice.carried in
    let counted = count_is choice came count is some in
    let placed = is_placed heap.start heap.end live answered.ask choice answered.allowed counted.0 in
    let told = is_told space choice kept answered in
    let size = bytes_asked choice.ask in
    let come = comes heap choice (replaced choice.ask) from came answered.sound placed.clear told.carries (came_is space choice kept live answered told.kept_is) from_is in
    let bounds = count_bounds choice.zeroed size came count counted.1 in
    let within = clear_within heap.start heap.end choice.at size live placed.clear in
    let starts = within.0 in
    let ends : choice.at + count ≤ heap.end = omega (arith, within.1, bounds.1, come.target) in
    let few = bounds.0 in
    record {
      few = few;
      near = omega arith;
      source = source_read space heap.start heap.end from came choice.at lawful near answered.has_heap come low;
      target = heap_permits 2 space heap.start heap.end choice.at came refl lawful answered.has_heap starts come.target (omega arith);
      apart = come.apart;
      zeros = λ mid sound same.
          heap_permits 2 mid heap.start heap.end (choice.at + came) (count - came) refl sound (subst (λ spans. Contains spans (blank_span heap.start heap.end)) (sym same) answered.has_heap) (omega arith) (omega arith) (omega arith);
      both = λ mid new one two.
          puts_both space mid new heap.start heap.end choice.at came count (bytes_at read (flat space) from came) lawful answered.has_heap starts ends few (length-bytes_at read (flat space) from came) one two;
    }
