-- Two runs on the same items, whose answers of the allocator the same lines tell of, are the same.
use Rattle.replay.proofs.Terms.{Bool, List, None, Option, Some, ap, arith, below_more, cond, false, not, refl, subst, suc, sym, true, zero, ℕ, ◌+◌, ◌<◌, ◌∙◌, ◌≡◌, and_parts, none-some, option_and_then_some, same_Some, slice_get, ◌&&◌, ◌==◌, ◌||◌, Item, Ask, Choice, same-is, is_allowed, is_block, same_ask, repeated_add, allocated_keeps, next_parts, unchosen_after, Picks, Same, Shape, Takes, does_shape, allocated, chooses, Chooses, Goes, State, repeated, after, does, next, run, Line, AreOfLines, IsOfLine}
use Rattle.replay.proofs.LineLemmas.{line_at, same_answer}

-- an answer that C allows is one to what was asked
pub allowed_asked : (start end : ℕ) (live : List (ℕ × ℕ)) (ask : Ask) (choice : Choice) → is_allowed start end live ask choice ≡ true → choice.ask ≡ ask
unfolding is_allowed
allowed_asked start end live ask choice allowed =
    same-is choice.ask ask (and_parts (same_ask choice.ask ask) (((choice.at == 0) && not choice.zeroed && (choice.carried == 0)) || is_block start end live choice) allowed).0

-- an ask behind which a run goes on was answered so
pub record IsAnswered (ask : Ask) (s t : State) (found : Option Choice) : Type 0 where
  pub choice : Choice
  pub found_is : found ≡ Some choice
  pub allowed : is_allowed s.machine.heap_start s.machine.heap_end s.machine.blocks ask choice ≡ true
  pub later : t ≡ record s { machine = allocated choice s.machine }

pub answered : (ask : Ask) (s : State) {t : State} (found : Option Choice) → after s (chooses ask s.machine found) ≡ Some t → IsAnswered ask s t found
answered ask s {t = t} None goes = absurd (none-some t goes)
answered ask s {t = t} (Some choice) goes = of_test (is_allowed s.machine.heap_start s.machine.heap_end s.machine.blocks ask choice) refl goes
  where
    of_test : (b : Bool) → is_allowed s.machine.heap_start s.machine.heap_end s.machine.blocks ask choice ≡ b → after s (cond b (Goes (allocated choice s.machine)) (Chooses ask)) ≡ Some t → IsAnswered ask s t (Some choice)
    of_test true is h = record { choice = choice; found_is = refl; allowed = is; later = sym (same_Some _ t h) }
    of_test false is h = absurd (none-some t h)

-- so it used one answer more
pub one_more_used : {ask : Ask} {s t : State} {found : Option Choice} → IsAnswered ask s t found → t.machine.allocations ≡ s.machine.allocations + 1
one_more_used {s = s} is = ap (λ (v : State). v.machine.allocations) is.later ∙ (allocated_keeps is.choice s.machine).allocations

-- as far as a state has used them, answers are the same
abbrev pub Agree : State → List Choice → List Choice → Type 0
Agree state ones others = (i : ℕ) → i < state.machine.allocations → slice_get ones i ≡ slice_get others i

-- one instruction more, with this item
same_after : (item : Option Item) (lines : List Line) (ones others : List Choice) (s t u : State) → AreOfLines lines ones → AreOfLines lines others → Agree s ones others
    → after s (does item (slice_get ones s.machine.allocations) s.machine) ≡ Some t → after s (does item (slice_get others s.machine.allocations) s.machine) ≡ Some u → (t ≡ u) × Agree t ones others
same_after item lines ones others s t u first second agree one other = of_shape (does_shape s.machine)
  where
    -- an instruction that does the same with every answer
    alike : ((choice another : Option Choice) → does item choice s.machine ≡ does item another s.machine) → (t ≡ u) × Agree t ones others
    alike same =
        let none : after s (does item None s.machine) ≡ Some t = ap (after s) (same None (slice_get ones s.machine.allocations)) ∙ one in
        let used = unchosen_after s t item none in (
          same_Some t u (sym one ∙ ap (after s) (same (slice_get ones s.machine.allocations) (slice_get others s.machine.allocations)) ∙ other),
          λ i low. agree i (omega (arith, low, used)),
        )

    picked : (ask : Ask) → IsAnswered ask s t (slice_get ones s.machine.allocations) → IsAnswered ask s u (slice_get others s.machine.allocations) → (t ≡ u) × Agree t ones others
    picked ask this that =
        let n = s.machine.allocations in
        let one_line = line_at lines ones n first this.found_is in
        let other_line = line_at lines others n second that.found_is in
        let lines_are : other_line.0 ≡ one_line.0 = same_Some other_line.0 one_line.0 (sym other_line.1 ∙ one_line.1) in
        let one_ask = allowed_asked s.machine.heap_start s.machine.heap_end s.machine.blocks ask this.choice this.allowed in
        let other_ask = allowed_asked s.machine.heap_start s.machine.heap_end s.machine.blocks ask that.choice that.allowed in
        let same : this.choice ≡ that.choice = same_answer one_line.2 (subst (λ (l : Line). IsOfLine l that.choice) lines_are other_line.2) (one_ask ∙ sym other_ask) in
        let used = one_more_used this in
        let all = below_more (λ i. slice_get ones i ≡ slice_get others i) n agree (this.found_is ∙ ap (λ (c : Choice). Some c) same ∙ sym that.found_is) in (
          this.later ∙ ap (λ (c : Choice). record s { machine = allocated c s.machine }) same ∙ sym that.later,
          λ i low. all i (omega (arith, low, used)),
        )

    of_shape : Shape s.machine (λ item choice. does item choice s.machine) → (t ≡ u) × Agree t ones others
    of_shape (Same e alone is) = alike (λ choice another. is item choice ∙ sym (is item another))
    of_shape (Takes may is) = alike (λ choice another. is item choice ∙ sym (is item another))
    of_shape (Picks ask good is) =
        picked ask
        (answered ask s (slice_get ones s.machine.allocations) (ap (after s) (sym (is item (slice_get ones s.machine.allocations))) ∙ one))
        (answered ask s (slice_get others s.machine.allocations) (ap (after s) (sym (is item (slice_get others s.machine.allocations))) ∙ other))

step_same : (items : List Item) (lines : List Line) (ones others : List Choice) (s t u : State) → AreOfLines lines ones → AreOfLines lines others → Agree s ones others → next items ones s ≡ Some t → next items others s ≡ Some u
    → (t ≡ u) × Agree t ones others
step_same items lines ones others s t u first second agree one other =
    same_after (slice_get items s.machine.taken) lines ones others s t u first second agree (next_parts items ones s t one).1 (next_parts items others s u other).1

-- so many instructions
pub run_same : (items : List Item) (lines : List Line) (ones others : List Choice) (first : State) (count : ℕ) (t u : State) → AreOfLines lines ones → AreOfLines lines others → Agree first ones others
    → run items ones first count ≡ Some t → run items others first count ≡ Some u → (t ≡ u) × Agree t ones others
run_same items lines ones others first zero t u these those agree one other = (
  sym (same_Some first t one) ∙ same_Some first u other,
  subst (λ (s : State). Agree s ones others) (same_Some first t one) agree,
)
run_same items lines ones others first (suc count) t u these those agree one other =
    option_and_then_some (next items ones) (repeated (next items ones) count first) t one (λ mid before goes.
    option_and_then_some (next items others) (repeated (next items others) count first) u other (λ other_mid other_before other_goes.
    let earlier = run_same items lines ones others first count mid other_mid these those agree before other_before in
    step_same items lines ones others mid t u these those earlier.1 goes (subst (λ (s : State). next items others s ≡ Some u) (sym earlier.0) other_goes)))

-- of a run there is each front
pub run_front : (items : List Item) (choices : List Choice) (first : State) {last : State} (steps rest : ℕ) → run items choices first (steps + rest) ≡ Some last → (mid : State) × (run items choices first steps ≡ Some mid)
run_front items choices first {last = last} steps rest ran =
    option_and_then_some (λ (s : State). repeated (next items choices) rest s) (repeated (next items choices) steps first) last
    (sym (repeated_add (next items choices) first steps rest) ∙ ran) (λ mid before behind. (mid, before))
