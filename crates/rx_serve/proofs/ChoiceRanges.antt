-- The answers of the allocator that a run used are those that a record may have.
use Rattle.std.specs.Prelude.{nat_lt}
use Rattle.block_book.specs.Block.{touched, lies_in}
use Rattle.block_book.specs.Answer.{bytes_asked, is_allowed, is_block, is_calloc, is_clear, kept_count, may_carry, moved_count, replaced, same_ask}
use Rattle.guest_image.proofs.Valid.{stack_top_below}
use Rattle.guest_image.specs.Image.{heap_end, heap_start}
use Rattle.guest_cpu.proofs.StartLemmas.{heap_above_null}
use Rattle.block_book.specs.declared.choice.Ask.{Ask}
use Rattle.block_book.specs.declared.choice.Ask.TheVariants.{Calloc as AskCalloc, Malloc as AskMalloc, Realloc as AskRealloc}
use Rattle.rx_serve.proofs.Terms.{Bool, List, None, Option, Some, [], ap, arith, eqb, false, get_or, inl, inr, leb, not, refl, subst, sym, true, true≢false, ℕ, ◌%◌, ◌&&◌, ◌+◌, ◌<◌, ◌^◌, ◌∙◌, ◌∷◌, ◌≡◌, ◌≤◌, and_parts, cases_eq, cases_lt, eqb-true, leb-true, ltb-true, or_cases, All-cons, All-from_get_or, All-head, All-nil, All-tail, same_Some, slice_get-get_or, All, IsSome, slice_get, ◌==◌, ◌||◌, Item, Choice, Image, repeated_keeps, allocated_keeps, next_parts, received_keeps, allocated, received, Machine, State, start, start_machine, Run, next, ByChoice, ByEnd, ByItem, ByItself, BySend, Moved, moved, IsAsk, IsChoice, is_ask, AreAsks}

-- a block that C allows begins in the heap, and ends there
clear_within : (start end : ℕ) (live : List (ℕ × ℕ)) (at size : ℕ) → is_clear start end live at size ≡ true → (start ≤ at) × (at < end)
unfolding is_clear
clear_within start end live at size clear =
    let parts = and_parts (leb start at) (leb (at + touched size) end) (and_parts (eqb (at % 16) 0) (lies_in at (touched size) start end) (and_parts _ _ clear).0).1 in
    (leb-true start at parts.0, omega (arith, leb-true (at + touched size) end parts.1))

-- what a record wants of an answer, beside the numbers of its ask
record IsPlaced (choice : Choice) : Type 0 where
  address : choice.at < 2 ^ 32
  null : choice.at ≡ 0 → choice.zeroed ≡ false
  zeros : is_calloc choice.ask ≡ true → 0 < choice.at → choice.zeroed ≡ true
  carried : choice.carried < 2 ^ 32
  carries : 0 < choice.carried → (0 < choice.at) × IsSome (replaced choice.ask)

-- a block is zeroed, or it isn't one of calloc
zeroed_so : (zeroed calloc : Bool) → (zeroed || not calloc) ≡ true → calloc ≡ true → zeroed ≡ true
zeroed_so true calloc either is = refl
zeroed_so false true either is = absurd (true≢false (sym either))
zeroed_so false false either is = is

plain_so : (zeroed : Bool) → not zeroed ≡ true → zeroed ≡ false
plain_so true is = absurd (true≢false (sym is))
plain_so false is = refl

null_placed : (choice : Choice) → ((choice.at == 0) && not choice.zeroed && (choice.carried == 0)) ≡ true → IsPlaced choice
null_placed choice is =
    let both = and_parts ((choice.at == 0) && not choice.zeroed) (choice.carried == 0) is in
    let parts = and_parts (choice.at == 0) (not choice.zeroed) both.0 in
    let none = eqb-true choice.carried 0 both.1 in
    elim (cases_eq choice.at 0) [
      | inl null ↦ record {
        address = omega (arith, null);
        null = λ _. plain_so choice.zeroed parts.1;
        zeros = λ calloc some. absurd (omega (arith, null, some));
        carried = omega (arith, none);
        carries = λ some. absurd (omega (arith, none, some));
      }
      | inr some ↦ absurd (some (eqb-true choice.at 0 parts.0))
    ]

-- bytes are carried in place of a block of the heap
carried_placed : (start end : ℕ) (live : List (ℕ × ℕ)) (choice : Choice) (over : Option ℕ) → may_carry start end live choice over ≡ true → 0 < start → end ≤ 2 ^ 32 → (choice.carried < 2 ^ 32) × IsSome over
unfolding may_carry
carried_placed start end live choice None may above below = absurd (true≢false (sym may))
carried_placed start end live choice (Some old) may above below =
    let count : ℕ = kept_count live (bytes_asked choice.ask) (Some old) + choice.carried in
    let parts = and_parts (leb start old) (leb (old + count) end) (and_parts (lies_in old count start end) (is_clear start end live choice.at count) (and_parts _ _ may).0).0 in
    let low : start ≤ old = leb-true start old parts.0 in
    let high : old + (kept_count live (bytes_asked choice.ask) (Some old) + choice.carried) ≤ end = leb-true (old + count) end parts.1 in
    (omega (arith, low, high, above, below), refl)

carries_so : (start end : ℕ) (live : List (ℕ × ℕ)) (choice : Choice) → ((choice.carried == 0) || may_carry start end live choice (replaced choice.ask)) ≡ true → 0 < start → end ≤ 2 ^ 32
    → (choice.carried < 2 ^ 32) × (0 < choice.carried → IsSome (replaced choice.ask))
carries_so start end live choice is above below =
    elim (or_cases (choice.carried == 0) (may_carry start end live choice (replaced choice.ask)) is) [
      | inl zero ↦ let none = eqb-true choice.carried 0 zero in (omega (arith, none), λ some. absurd (omega (arith, none, some)))
      | inr may ↦ let found = carried_placed start end live choice (replaced choice.ask) may above below in (found.0, λ some. found.1)
    ]

-- a block in a heap above address 0 and below 2 ^ 32
block_placed : (start end : ℕ) (live : List (ℕ × ℕ)) (choice : Choice) → is_block start end live choice ≡ true → 0 < start → end ≤ 2 ^ 32 → IsPlaced choice
unfolding is_block
block_placed start end live choice is above below =
    let size = bytes_asked choice.ask in
    let marked : Bool = choice.zeroed || not (is_calloc choice.ask) in
    let both = and_parts (nat_lt size (2 ^ 32) && is_clear start end live choice.at size && marked) ((choice.carried == 0) || may_carry start end live choice (replaced choice.ask)) is in
    let parts = and_parts (nat_lt size (2 ^ 32) && is_clear start end live choice.at size) marked both.0 in
    let carries = carries_so start end live choice both.1 above below in
    let within = clear_within start end live choice.at size (and_parts (nat_lt size (2 ^ 32)) (is_clear start end live choice.at size) parts.0).1 in
    record {
      address = omega (arith, within.1, below);
      null = λ null. absurd (omega (arith, within.0, above, null));
      zeros = λ calloc some. zeroed_so choice.zeroed (is_calloc choice.ask) parts.1 calloc;
      carried = carries.0;
      carries = λ some. (omega (arith, within.0, above), carries.1 some);
    }

-- an answer that C allows there
allowed_placed : (start end : ℕ) (live : List (ℕ × ℕ)) (ask : Ask) (choice : Choice) → is_allowed start end live ask choice ≡ true → 0 < start → end ≤ 2 ^ 32 → IsPlaced choice
unfolding is_allowed
allowed_placed start end live ask choice may above below =
    elim (or_cases ((choice.at == 0) && not choice.zeroed && (choice.carried == 0)) (is_block start end live choice) (and_parts (same_ask choice.ask ask) _ may).1) [
      | inl null ↦ null_placed choice null
      | inr block ↦ block_placed start end live choice block above below
    ]

-- a state of a run: its heap is that of its image, and the answers that it used are fine
record HasUsed (image : Image) (choices : List Choice) (s : State) : Type 0 where
  start : s.machine.heap_start ≡ heap_start image
  end : s.machine.heap_end ≡ heap_end image
  used : (k : ℕ) (choice : Choice) → k < s.machine.allocations → slice_get choices k ≡ Some choice → IsPlaced choice

-- an effect behind which nothing was used
same_used : (image : Image) (choices : List Choice) (s t : State) (m : Machine) → t.machine ≡ m → m.heap_start ≡ s.machine.heap_start → m.heap_end ≡ s.machine.heap_end → m.allocations ≡ s.machine.allocations
    → HasUsed image choices s → HasUsed image choices t
same_used image choices s t m is start_same end_same count had = record {
  start = ap (λ (n : Machine). n.heap_start) is ∙ start_same ∙ had.start;
  end = ap (λ (n : Machine). n.heap_end) is ∙ end_same ∙ had.end;
  used = λ k choice less there.
      let before : k < s.machine.allocations = omega (arith, less, ap (λ (n : Machine). n.allocations) is, count) in
      had.used k choice before there;
}

-- an answer that C allows
picked_used : (image : Image) (choices : List Choice) (s t : State) (ask : Ask) (choice : Choice) → slice_get choices s.machine.allocations ≡ Some choice → is_allowed s.machine.heap_start s.machine.heap_end s.machine.blocks ask choice ≡ true
    → t.machine ≡ allocated choice s.machine → HasUsed image choices s → HasUsed image choices t
picked_used image choices s t ask choice there may is had =
    let kept = allocated_keeps choice s.machine in
    let below : s.machine.heap_end ≤ 2 ^ 32 = omega (arith, had.end, stack_top_below image) in
    let above : 0 < s.machine.heap_start = omega (arith, had.start, heap_above_null image) in
    record {
      start = ap (λ (n : Machine). n.heap_start) is ∙ kept.heap_start ∙ had.start;
      end = ap (λ (n : Machine). n.heap_end) is ∙ kept.heap_end ∙ had.end;
      used = λ k other less here.
          elim (cases_lt k s.machine.allocations) [
            | inl before ↦ had.used k other before here
            | inr late ↦
                let now : k ≡ s.machine.allocations = omega (arith, late, less, ap (λ (n : Machine). n.allocations) is, kept.allocations) in
                subst IsPlaced (same_Some choice other (sym there ∙ ap (slice_get choices) (sym now) ∙ here)) (allowed_placed s.machine.heap_start s.machine.heap_end s.machine.blocks ask choice may above below)
          ];
    }

next_used : (image : Image) (items : List Item) (choices : List Choice) (s t : State) → next items choices s ≡ Some t → HasUsed image choices s → HasUsed image choices t
next_used image items choices s t goes had = by (moved s t (slice_get items s.machine.taken) (slice_get choices s.machine.allocations) (next_parts items choices s t goes).1)
  where
    machine_is : (u : State) → u ≡ t → t.machine ≡ u.machine
    machine_is u is = ap (λ (v : State). v.machine) (sym is)

    by : Moved s t (slice_get items s.machine.taken) (slice_get choices s.machine.allocations) → HasUsed image choices t
    by (ByItself m alone is) = same_used image choices s t m (machine_is _ is) alone.heap_start alone.heap_end alone.allocations had
    by (BySend conn bytes m alone is) = same_used image choices s t m (machine_is _ is) alone.0.heap_start alone.0.heap_end alone.0.allocations had
    by (ByEnd code is) = same_used image choices s t s.machine (machine_is _ is) refl refl refl had
    by (ByItem item at is) =
        let kept = received_keeps item s.machine in
        same_used image choices s t (received item s.machine) (machine_is _ is) kept.heap_start kept.heap_end kept.allocations had
    by (ByChoice ask choice at may is) = picked_used image choices s t ask choice at may (machine_is _ is) had

begins_used : (image : Image) (choices : List Choice) → HasUsed image choices (start image)
unfolding start start_machine
begins_used image choices = record { start = refl; end = refl; used = λ k choice less there. absurd (omega (arith, less)) }

all_placed : (image : Image) (items : List Item) (choices : List Choice) (steps : ℕ) (state : State) → Run image items choices steps state → All IsPlaced choices
all_placed image items choices steps state ran =
    let had =
    repeated_keeps (next items choices) (λ x y. HasUsed image choices x → HasUsed image choices y) (λ x used. used) (λ x y z one other used. other (one used))
    (λ x y goes. next_used image items choices x y goes) steps (start image) state ran.ran (begins_used image choices) in
    let none : Choice = record { ask = AskMalloc 0; at = 0; zeroed = false; carried = 0 } in
    All-from_get_or IsPlaced choices none
    (λ k less. had.used k (get_or choices k none) (omega (arith, less, ran.used)) (slice_get-get_or choices k none less))

-- ---- with the numbers of their asks

ask_fine : (ask : Ask) → is_ask ask ≡ true → IsAsk ask
ask_fine (AskMalloc size) is = ltb-true size (2 ^ 32) is
ask_fine (AskCalloc count size) is =
    let parts = and_parts (nat_lt count (2 ^ 32)) (nat_lt size (2 ^ 32)) is in
    (ltb-true count (2 ^ 32) parts.0, ltb-true size (2 ^ 32) parts.1)
ask_fine (AskRealloc old size) is =
    let parts = and_parts (nat_lt old (2 ^ 32)) (nat_lt size (2 ^ 32)) is in
    (ltb-true old (2 ^ 32) parts.0, ltb-true size (2 ^ 32) parts.1)

choice_fine : (choice : Choice) → is_ask choice.ask ≡ true → IsPlaced choice → IsChoice choice
choice_fine choice ask placed = record { asked = (refl, ask_fine choice.ask ask); address = placed.address; null = placed.null; zeros = placed.zeros; carried = placed.carried; carries = placed.carries }

both_fine : (choices : List Choice) → AreAsks choices → All IsPlaced choices → All IsChoice choices
both_fine [] asks placed = All-nil IsChoice
both_fine (choice ∷ choices) asks placed =
    All-cons IsChoice choice choices (choice_fine choice (All-head (λ (c : Choice). is_ask c.ask ≡ true) choice choices asks) (All-head IsPlaced choice choices placed))
    (both_fine choices (All-tail (λ (c : Choice). is_ask c.ask ≡ true) choice choices asks) (All-tail IsPlaced choice choices placed))

-- all answers of the allocator of a run
pub choices_fine : (image : Image) (items : List Item) (choices : List Choice) (steps : ℕ) (state : State) → AreAsks choices → Run image items choices steps state → All IsChoice choices
choices_fine image items choices steps state asks ran = both_fine choices asks (all_placed image items choices steps state ran)
