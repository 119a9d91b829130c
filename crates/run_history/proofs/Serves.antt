-- A served run is a run: its asks took the choices of the environments, each in its turn.
use Rattle.run_history.proofs.Terms.{Bool, List, None, Option, Some, [], add-zero, ap, append-nil, append_assoc, arith, cond, eqb, false, inl, inr, leb, length, length-append, refl, subst, suc, sym, true, zero, ℕ, ◌++◌, ◌+◌, ◌<◌, ◌∙◌, ◌∷◌, ◌≡◌, cases_Bool, eqb-true, leb-false, none-some, option_and_then_some, same_Some, is_some, option_and_then, option_map, slice_get, Item, Ask, Calloc, Malloc, Realloc, Choice, is_allowed, is_defined, Env, Instr, Ecall, row, Image, execute, permitted, BadAccess, BadFree, Hang, Chooses, Effect, Emits, Ends, Fails, Goes, Machine, State, Wants, register, start, start_machine, allocated, allocation, call, chooses, takes, Run, after, does, executed, instruction, next, run, word_at, instruction_at, touched, Allocate, Free, Grant, Guest, Limits, Nothing, Override, Path, Request, call_request, does_with, env_at, grant, granted, guest_of, is_refused, listed, longer, origin, planned_next, request_of, serve, served_next, serves, site_of}
use Rattle.run_history.proofs.Repeats.{repeated_as}
use Rattle.run_history.proofs.Shapes.{Shape, Same, Takes, Picks, does_shape, Alone}
use Rattle.run_history.proofs.Runs.{IsSettled, Extends, extends_longer, settled_after, does_more, extends_same, next_after, run_chosen, element_behind, element_none, allocated_keeps, received_keeps}

-- a value that was mapped
pub map_some : {A B : Type 0} (f : A → B) (o : Option A) (y : B) → option_map f o ≡ Some y → (x : A) × (o ≡ Some x) × (f x ≡ y)
map_some f None y e = absurd (none-some y e)
map_some f (Some x) y e = (x, refl, same_Some (f x) y e)

-- an answer of the allocator that is there was asked for
pub data Asked (env : Env) (guest : Guest) (given : Grant) : Type 0 where
  Chosen : (ask : Ask) (choice : Choice) → request_of (instruction_at guest.machine) guest.machine ≡ Allocate ask → given.chosen ≡ Some choice → Asked env guest given
  Unchosen : given.chosen ≡ None → Asked env guest given

asked_of : (env : Env) (guest : Guest) (given : Grant) (request : Request) → request_of (instruction_at guest.machine) guest.machine ≡ request → granted env guest.heap (site_of guest.machine) request ≡ Some given → Asked env guest given
asked_of env guest given (Allocate ask) is h =
    let p = map_some _ _ given h in Chosen ask _ is (ap (λ (g : Grant). g.chosen) (sym p.2))
asked_of env guest given (Free at) is h =
    let p = map_some _ _ given h in Unchosen (ap (λ (g : Grant). g.chosen) (sym p.2))
asked_of env guest given Nothing is h =
    let e = ap (λ (g : Grant). g.chosen) (same_Some _ given h) in Unchosen (sym e)

pub asked : (env : Env) (guest : Guest) (given : Grant) → grant env guest ≡ Some given → Asked env guest given
unfolding grant
asked env guest given h = asked_of env guest given (request_of (instruction_at guest.machine) guest.machine) refl h

-- a call that asks for a block
pub call_allocates : (m : Machine) (number : ℕ) (ask : Ask) → call_request number m ≡ Allocate ask → (item : Option Item) (choice : Option Choice) → call number item choice m ≡ allocation ask choice m
call_allocates m number ask h item choice =
    elim (cases_Bool (eqb number 3)) [
      | inl is ↦ numbered 3 is (λ e. same (Malloc (register m 10)) e)
      | inr no_malloc ↦ elim (cases_Bool (eqb number 4)) [
        | inl is ↦ numbered 4 is (λ e. absurd (frees e))
        | inr no_free ↦ elim (cases_Bool (eqb number 7)) [
          | inl is ↦ numbered 7 is (λ e. same (Calloc (register m 10) (register m 11)) e)
          | inr no_calloc ↦ elim (cases_Bool (eqb number 8)) [
            | inl is ↦ numbered 8 is (λ e. same (Realloc (register m 10) (register m 11)) e)
            | inr no_realloc ↦ absurd (never (rw (no_malloc, no_free, no_calloc, no_realloc) at h))
          ]
        ]
      ]
    ]
  where
    frees : Free (register m 10) ≡ Allocate ask → ⊥
    frees e = cc

    never : Nothing ≡ Allocate ask → ⊥
    never e = cc

    same : (other : Ask) → Allocate other ≡ Allocate ask → allocation other choice m ≡ allocation ask choice m
    same other e = let is : other ≡ ask = cc in ap (λ a. allocation a choice m) is

    numbered : (known : ℕ) → eqb number known ≡ true → (call_request known m ≡ Allocate ask → call known item choice m ≡ allocation ask choice m) → call number item choice m ≡ allocation ask choice m
    numbered known is at_known =
        let e = eqb-true number known is in
        subst (λ n. call n item choice m ≡ allocation ask choice m) (sym e) (at_known (subst (λ n. call_request n m ≡ Allocate ask) e h))

-- an instruction that asks for a block
pub allocates : (m : Machine) (ask : Ask) → request_of (instruction_at m) m ≡ Allocate ask → (item : Option Item) (choice : Option Choice) → does item choice m ≡ allocation ask choice m
unfolding does instruction_at instruction
allocates m ask h item choice =
    elim (cases_Bool (permitted execute m.memory m.pc 4)) [
      | inl may ↦ rw may (of_row (row (word_at m)) (rw may at h))
      | inr not_may ↦ absurd (never (rw not_may at h))
    ]
  where
    never : Nothing ≡ Allocate ask → ⊥
    never e = cc

    of_row : (found : Option Instr) → request_of found m ≡ Allocate ask → executed found item choice m ≡ allocation ask choice m
    of_row None e = absurd (never e)
    of_row (Some Ecall) e = call_allocates m (register m 17) ask e item choice
    of_row (Some _) e = absurd (never e)

-- an instruction without an answer of the allocator uses none
pub unchosen_after : (s t : State) (item : Option Item) → after s (does item None s.machine) ≡ Some t → t.machine.allocations ≡ s.machine.allocations
unchosen_after s t item goes = of_shape (does_shape s.machine)
  where
    of_alone : (e : Effect) → Alone s.machine e → after s e ≡ Some t → t.machine.allocations ≡ s.machine.allocations
    of_alone (Goes new) alone h = let same = ap (λ (v : State). v.machine) (same_Some _ t h) in rw (← same) alone.allocations
    of_alone (Emits conn bytes new) alone h = let same = ap (λ (v : State). v.machine) (same_Some _ t h) in rw (← same) alone.0.allocations
    of_alone (Ends code) alone h = let same = ap (λ (v : State). v.machine) (same_Some _ t h) in rw (← same) refl
    of_alone Wants alone h = absurd alone
    of_alone (Chooses ask) alone h = absurd alone
    of_alone (Fails cause) alone h = absurd (none-some t h)

    of_next : (found : Option Item) → after s (takes s.machine found) ≡ Some t → t.machine.allocations ≡ s.machine.allocations
    of_next None h = absurd (none-some t h)
    of_next (Some it) h = let same = ap (λ (v : State). v.machine) (same_Some _ t h) in rw (← same) (received_keeps it s.machine).allocations

    of_shape : Shape s.machine (λ item choice. does item choice s.machine) → t.machine.allocations ≡ s.machine.allocations
    of_shape (Same e alone is) = of_alone e alone (ap (after s) (sym (is item None)) ∙ goes)
    of_shape (Takes may is) = of_next item (ap (after s) (sym (is item None)) ∙ goes)
    of_shape (Picks ask good is) = absurd (none-some t (ap (after s) (sym (is item None)) ∙ goes))

-- an ask with an answer uses it
pub chosen_after : (s t : State) (ask : Ask) (choice : Choice) → after s (allocation ask (Some choice) s.machine) ≡ Some t → t.machine ≡ allocated choice s.machine
chosen_after s t ask choice goes = of_defined (is_defined s.machine.blocks ask) goes
  where
    of_test : (b : Bool) → after s (cond b (Goes (allocated choice s.machine)) (Chooses ask)) ≡ Some t → t.machine ≡ allocated choice s.machine
    of_test true h = sym (ap (λ (v : State). v.machine) (same_Some _ t h))
    of_test false h = absurd (none-some t h)

    of_defined : (b : Bool) → after s (cond b (chooses ask s.machine (Some choice)) (Fails BadFree)) ≡ Some t → t.machine ≡ allocated choice s.machine
    of_defined true h = of_test (is_allowed s.machine.heap_start s.machine.heap_end s.machine.blocks ask choice) h
    of_defined false h = absurd (none-some t h)

-- behind an effect after which nothing comes, the other one stands
passes : (s t : State) (b : Bool) (e other : Effect) → after s e ≡ None → after s (cond b e other) ≡ Some t → (b ≡ false) × (after s other ≡ Some t)
passes s t true e other none h = absurd (none-some t (sym none ∙ h))
passes s t false e other none h = (refl, h)

-- an instruction of a served run, by its parts
pub record ServesTo (limits : Limits) (items : List Item) (env : Env) (path to : Path) : Type 0 where
  pub lives : path.state.ended ≡ None
  pub early : path.state.machine.since < limits.budget
  pub kept_rule : is_refused limits path.heap (touched path.state.machine) ≡ false
  pub given : Grant
  pub granted_by : grant env (guest_of path) ≡ Some given
  pub goes : after path.state (does (slice_get items path.state.machine.taken) given.chosen path.state.machine) ≡ Some to.state
  pub heap : to.heap ≡ given.heap
  pub choices : to.choices ≡ path.choices ++ listed given.chosen
  pub steps : to.steps ≡ path.steps + 1

pub serves_to : (limits : Limits) (items : List Item) (env : Env) (path to : Path) → served_next limits items env path ≡ Some to → ServesTo limits items env path to
unfolding served_next serves
serves_to limits items env path to goes = of_ended path.state.ended refl
  where
    with_grant : (given : Option Grant) (state : State) → grant env (guest_of path) ≡ given → path.state.ended ≡ None → path.state.machine.since < limits.budget → is_refused limits path.heap (touched path.state.machine) ≡ false
        → after path.state (does_with given (slice_get items path.state.machine.taken) path.state.machine) ≡ Some state → longer path given state ≡ to → ServesTo limits items env path to
    with_grant None state is lives early rule h same = absurd (none-some state h)
    with_grant (Some given) state is lives early rule h same = record {
      lives = lives;
      early = early;
      kept_rule = rule;
      given = given;
      granted_by = is;
      goes = h ∙ ap (λ (p : Path). Some p.state) same;
      heap = sym (ap (λ (p : Path). p.heap) same);
      choices = sym (ap (λ (p : Path). p.choices) same);
      steps = sym (ap (λ (p : Path). p.steps) same);
    }

    of_ended : (ended : Option ℕ) → path.state.ended ≡ ended → ServesTo limits items env path to
    of_ended (Some code) is = absurd (none-some to (rw is at goes))
    of_ended None is =
        let more : Option Path = option_map (longer path (grant env (guest_of path))) (after path.state (serves limits env (slice_get items path.state.machine.taken) (guest_of path))) in
        let h : more ≡ Some to = sym (ap (λ (ended : Option ℕ). cond (is_some ended) None more) is) ∙ goes in
        let p = map_some _ _ to h in
        let first = passes path.state p.0 (leb limits.budget path.state.machine.since) _ _ refl p.1 in
        let second = passes path.state p.0 (is_refused limits path.heap (touched path.state.machine)) _ _ refl first.1 in
        with_grant (grant env (guest_of path)) p.0 refl is (leb-false limits.budget path.state.machine.since first.0) second.0 second.1 p.2

-- the choice behind those that were used has the next number
choice_here : (choices : List Choice) (chosen : Option Choice) (n : ℕ) → length choices ≡ n → slice_get (choices ++ listed chosen) n ≡ chosen
choice_here choices None n e = rw append-nil (element_none choices n e)
choice_here choices (Some choice) n e = element_behind choices choice n e

-- a run used all of its answers of the allocator
abbrev pub IsUsed : Path → Type 0
IsUsed path = path.state.machine.allocations ≡ length path.choices

-- an instruction of a served run is one of a run that has its answers of the allocator
pub serves_next : (limits : Limits) (items : List Item) (env : Env) (path to : Path) → IsUsed path → ServesTo limits items env path to → next items to.choices path.state ≡ Some to.state
serves_next limits items env path to used parts =
    let here : slice_get to.choices path.state.machine.allocations ≡ parts.given.chosen =
    ap (λ cs. slice_get cs path.state.machine.allocations) parts.choices ∙ choice_here path.choices parts.given.chosen path.state.machine.allocations (sym used) in
    next_after items to.choices path.state _ parts.lives (ap (λ c. does (slice_get items path.state.machine.taken) c path.state.machine) here) ∙ parts.goes

-- and it used all of them
pub serves_used : (limits : Limits) (items : List Item) (env : Env) (path to : Path) → IsUsed path → ServesTo limits items env path to → IsUsed to
serves_used limits items env path to used parts = of_asked (asked env (guest_of path) parts.given parts.granted_by)
  where
    of_asked : Asked env (guest_of path) parts.given → IsUsed to
    of_asked (Chosen ask choice is chosen) =
        let goes : after path.state (allocation ask (Some choice) path.state.machine) ≡ Some to.state =
        ap (after path.state) (sym (allocates path.state.machine ask is (slice_get items path.state.machine.taken) (Some choice)))
        ∙ ap (λ c. after path.state (does (slice_get items path.state.machine.taken) c path.state.machine)) (sym chosen)
        ∙ parts.goes in
        let more = ap (λ (m : Machine). m.allocations) (chosen_after path.state to.state ask choice goes) ∙ (allocated_keeps choice path.state.machine).allocations in
        let count : length to.choices ≡ length path.choices + 1 = ap length parts.choices ∙ ap (λ c. length (path.choices ++ listed c)) chosen ∙ length-append path.choices (choice ∷ []) in
        more ∙ omega (arith, used, count)
    of_asked (Unchosen chosen) =
        let goes : after path.state (does (slice_get items path.state.machine.taken) None path.state.machine) ≡ Some to.state =
        ap (λ c. after path.state (does (slice_get items path.state.machine.taken) c path.state.machine)) (sym chosen) ∙ parts.goes in
        let same = unchosen_after path.state to.state (slice_get items path.state.machine.taken) goes in
        let count : length to.choices ≡ length path.choices = ap length parts.choices ∙ ap (λ c. length (path.choices ++ listed c)) chosen ∙ ap length (append-nil path.choices) in
        same ∙ used ∙ sym count

-- the second run is the first with so many more instructions, which used more answers of the allocator
pub record Follows (items : List Item) (first second : Path) (more : ℕ) : Type 0 where
  pub others : List Choice
  pub chose : second.choices ≡ first.choices ++ others
  pub counted : second.steps ≡ first.steps + more
  pub ran : run items second.choices first.state more ≡ Some second.state
  pub used : IsUsed second

-- a served run goes on as a run
pub served_follows : (limits : Limits) (items : List Item) (plan : List Override) (first second : Path) (n : ℕ) → IsUsed first → serve limits items plan first n ≡ Some second → Follows items first second n
served_follows limits items plan first second zero used ran =
    let same = same_Some first second ran in
    subst (λ (p : Path). Follows items first p 0) same (record {
      others = [];
      chose = sym (append-nil first.choices);
      counted = sym (add-zero first.steps);
      ran = refl;
      used = used;
    })
served_follows limits items plan first second (suc n) used ran =
    option_and_then_some (planned_next limits items plan) (serve limits items plan first n) second ran (λ mid before goes.
    let earlier = served_follows limits items plan first mid n used before in
    let env = env_at limits.base plan mid.state.machine.taken in
    let parts = serves_to limits items env mid second goes in
    let last = serves_next limits items env mid second earlier.used parts in
    record {
      others = earlier.others ++ listed parts.given.chosen;
      chose = parts.choices ∙ ap (λ cs. cs ++ listed parts.given.chosen) earlier.chose ∙ append_assoc first.choices earlier.others (listed parts.given.chosen);
      counted = parts.steps ∙ omega (arith, earlier.counted);
      ran =
          ap (option_and_then (next items second.choices))
          (ap (λ cs. run items cs first.state n) parts.choices ∙ run_chosen items mid.choices (listed parts.given.chosen) first.state mid.state n earlier.ran)
          ∙ last;
      used = serves_used limits items env mid second earlier.used parts;
    })

-- a run from the start of which all answers of the allocator are those of its environments
pub served_is_run : (limits : Limits) (image : Image) (items : List Item) (plan : List Override) (path : Path) (n : ℕ) → serve limits items plan (origin image) n ≡ Some path → Run image items path.choices n path.state
unfolding start start_machine
served_is_run limits image items plan path n ran =
    let follows = served_follows limits items plan (origin image) path n refl ran in
    record { ran = follows.ran; used = follows.used }

-- what is served is unchanged by more items behind
serves_more : (limits : Limits) (env : Env) (item other : Option Item) (guest : Guest) (e : Effect) → Extends item other → serves limits env item guest ≡ e → IsSettled e → serves limits env other guest ≡ e
unfolding serves
serves_more limits env item other guest e more was settled = of_late (leb limits.budget guest.machine.since) (is_refused limits guest.heap (touched guest.machine)) (grant env guest) was
  where
    of_late : (late refused : Bool) (given : Option Grant)
        → cond late (Fails Hang) (cond refused (Fails BadAccess) (does_with given item guest.machine)) ≡ e
        → cond late (Fails Hang) (cond refused (Fails BadAccess) (does_with given other guest.machine)) ≡ e
    of_late true refused given h = h
    of_late false true given h = h
    of_late false false None h = h
    of_late false false (Some given) h = does_more guest.machine item other given.chosen given.chosen e more (extends_same given.chosen) h settled

-- one instruction of a served run
pub served_next_more : (limits : Limits) (items more : List Item) (env : Env) (path to : Path) → served_next limits items env path ≡ Some to → served_next limits (items ++ more) env path ≡ Some to
unfolding served_next
served_next_more limits items more env path to goes = of_ended path.state.ended refl
  where
    of_ended : (ended : Option ℕ) → path.state.ended ≡ ended → served_next limits (items ++ more) env path ≡ Some to
    of_ended (Some code) is = absurd (none-some to (rw is at goes))
    of_ended None is =
        let before : Option Path = option_map (longer path (grant env (guest_of path))) (after path.state (serves limits env (slice_get items path.state.machine.taken) (guest_of path))) in
        let behind : Option Path = option_map (longer path (grant env (guest_of path))) (after path.state (serves limits env (slice_get (items ++ more) path.state.machine.taken) (guest_of path))) in
        let h : before ≡ Some to = sym (ap (λ (ended : Option ℕ). cond (is_some ended) None before) is) ∙ goes in
        let p = map_some _ _ to h in
        let same = serves_more limits env _ _ (guest_of path) _ (extends_longer items more path.state.machine.taken) refl (settled_after path.state p.0 _ p.1) in
        ap (λ (ended : Option ℕ). cond (is_some ended) None behind) is
        ∙ ap (λ e. option_map (longer path (grant env (guest_of path))) (after path.state e)) same
        ∙ h

-- a served run
pub served_more : (limits : Limits) (items more : List Item) (plan : List Override) (first second : Path) (n : ℕ) → serve limits items plan first n ≡ Some second → serve limits (items ++ more) plan first n ≡ Some second
served_more limits items more plan first second n ran =
    repeated_as (planned_next limits items plan) (planned_next limits (items ++ more) plan)
    (λ x y goes. served_next_more limits items more (env_at limits.base plan x.state.machine.taken) x y goes) n first second ran
