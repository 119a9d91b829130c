-- What a run writes is fixed by where it comes from and where it leads to: the environments on the way add nothing, since the answers of the allocator that it used
-- stand in it.
use Rattle.alloc_env.specs.Serving.{Served as Answered}
use Rattle.guest_cpu.proofs.Terms.{Bool, List, None, Option, Some, [], ap, append-nil, append_assoc, arith, false, leb, refl, subst, sym, ℕ, ◌++◌, ◌∙◌, ◌∷◌, ◌≡◌, ◌≤◌, lt-leb, append_cancel_left, same_Some, slice_get, Item, Choice, Site, Heap, Env, served_ask, map_some, serves_to, Chooses, Effect, Emits, Ends, Fails, Goes, Machine, State, Wants, after, does, Allocate, Free, Grant, Guest, Limits, Nothing, Path, Request, grant, granted, guest_of, is_refused, listed, request_of, served_next, serves, site_of, Range, instruction_at, touched, with_range, written_with, WritesIn, writes, written_by, WritesOnce}

-- a run that goes on used more answers of the allocator behind its own, and has no fewer instructions
record Adds (first second : Path) : Type 0 where
  others : List Choice
  chose : second.choices ≡ first.choices ++ others
  steps : first.steps ≤ second.steps

in_adds : (limits : Limits) (items : List Item) (base : ℕ) (envs : List Env) (first : Path) (before : List Bool) (second : Path) (after : List Bool) → WritesIn limits items base envs first before second after → Adds first second
in_adds limits items base [] first before second after wrote =
    let same : second.steps ≡ first.steps = ap (λ (p : Path). p.steps) wrote.0 in
    record { others = []; chose = ap (λ (p : Path). p.choices) wrote.0 ∙ sym (append-nil first.choices); steps = omega (arith, same) }
in_adds limits items base (env ∷ envs) first before second after wrote =
    let parts = serves_to limits items env first wrote.0 wrote.1 in
    let on = in_adds limits items base envs wrote.0 (with_range base (writes limits items env first) before) second after wrote.2 in
    record {
      others = listed parts.given.chosen ++ on.others;
      chose = on.chose ∙ ap (λ (cs : List Choice). cs ++ on.others) parts.choices ∙ append_assoc first.choices (listed parts.given.chosen) on.others;
      steps = omega (arith, parts.steps, on.steps);
    }

same_choice : (one other : Choice) (rest more : List Choice) → one ∷ rest ≡ other ∷ more → one ≡ other
same_choice one other rest more same = cc

-- In each environment an ask is answered by a choice, and nothing else is. So where a list of answers goes on by both, they are the same.
granted_once : (env under : Env) (heap apart : Heap) (site : Site) (request : Request) (given found : Grant) (rest more : List Choice) → granted env heap site request ≡ Some given → granted under apart site request ≡ Some found
    → listed given.chosen ++ rest ≡ listed found.chosen ++ more → given.chosen ≡ found.chosen
granted_once env under heap apart site (Allocate ask) given found rest more one other same =
    let p = map_some (λ (served : Answered). record { chosen = Some served.choice; heap = served.heap }) (served_ask env heap site ask) given one in
    let q = map_some (λ (served : Answered). record { chosen = Some served.choice; heap = served.heap }) (served_ask under apart site ask) found other in
    let is : Some p.0.choice ≡ given.chosen = ap (λ (g : Grant). g.chosen) p.2 in
    let was : Some q.0.choice ≡ found.chosen = ap (λ (g : Grant). g.chosen) q.2 in
    let both : listed (Some p.0.choice) ++ rest ≡ listed (Some q.0.choice) ++ more = ap (λ (c : Option Choice). listed c ++ rest) is ∙ same ∙ ap (λ (c : Option Choice). listed c ++ more) (sym was) in
    sym is ∙ ap Some (same_choice p.0.choice q.0.choice rest more both) ∙ was
granted_once env under heap apart site (Free place) given found rest more one other same =
    let p = map_some _ _ given one in
    let q = map_some _ _ found other in
    sym (ap (λ (g : Grant). g.chosen) p.2) ∙ ap (λ (g : Grant). g.chosen) q.2
granted_once env under heap apart site Nothing given found rest more one other same =
    sym (ap (λ (g : Grant). g.chosen) (same_Some _ given one)) ∙ ap (λ (g : Grant). g.chosen) (same_Some _ found other)

grants_once : (env under : Env) (guest apart : Guest) (given found : Grant) (rest more : List Choice) → guest.machine ≡ apart.machine → grant env guest ≡ Some given → grant under apart ≡ Some found
    → listed given.chosen ++ rest ≡ listed found.chosen ++ more → given.chosen ≡ found.chosen
unfolding grant
grants_once env under guest apart given found rest more same one other both =
    granted_once env under guest.heap apart.heap (site_of apart.machine) (request_of (instruction_at apart.machine) apart.machine) given found rest more
    (subst (λ (m : Machine). granted env guest.heap (site_of m) (request_of (instruction_at m) m) ≡ Some given) same one) other both

-- how the heap is laid out behind an instruction doesn't matter to what it writes
written_given : (e : Effect) (item : Option Item) (given found : Grant) (m : Machine) → given.chosen ≡ found.chosen → written_by e item (Some given) m ≡ written_by e item (Some found) m
written_given Wants None given found m same = refl
written_given Wants (Some item) given found m same = refl
written_given (Goes new) item given found m same = ap (λ (c : Option Choice). written_with c (instruction_at m) m) same
written_given (Emits conn bytes new) item given found m same = refl
written_given (Ends code) item given found m same = refl
written_given (Chooses ask) item given found m same = refl
written_given (Fails cause) item given found m same = refl

-- what an instruction that is done writes, by the answer of the allocator
wrote_with : (limits : Limits) (items : List Item) (env : Env) (path : Path) (given : Grant) → leb limits.budget path.state.machine.since ≡ false → is_refused limits path.heap (touched path.state.machine) ≡ false → grant env (guest_of path) ≡ Some given
    → writes limits items env path ≡ written_by (does None given.chosen path.state.machine) (slice_get items path.state.machine.taken) (Some given) path.state.machine
unfolding serves
wrote_with limits items env path given early rule gives = rw (early, rule, gives) refl

-- two places of runs that differ at most in the layout of the heap
record Alike (one other : Path) : Type 0 where
  state : one.state ≡ other.state
  choices : one.choices ≡ other.choices
  steps : one.steps ≡ other.steps

-- One instruction at each, where the answers of the allocator go on the same: it leads to two such places, and writes the same.
next_once : (limits : Limits) (items : List Item) (env under : Env) (one other next far : Path) (rest more : List Choice) → Alike one other → served_next limits items env one ≡ Some next → served_next limits items under other ≡ Some far
    → next.choices ++ rest ≡ far.choices ++ more → Alike next far × (writes limits items env one ≡ writes limits items under other)
next_once limits items env under one other next far rest more alike goes comes same =
    let parts = serves_to limits items env one next goes in
    let others = serves_to limits items under other far comes in
    let behind : listed parts.given.chosen ++ rest ≡ listed others.given.chosen ++ more =
    append_cancel_left one.choices (listed parts.given.chosen ++ rest) (listed others.given.chosen ++ more)
    (sym (append_assoc one.choices (listed parts.given.chosen) rest)
    ∙ ap (λ (cs : List Choice). cs ++ rest) (sym parts.choices)
    ∙ same
    ∙ ap (λ (cs : List Choice). cs ++ more) (others.choices ∙ ap (λ (cs : List Choice). cs ++ listed others.given.chosen) (sym alike.choices))
    ∙ append_assoc one.choices (listed others.given.chosen) more) in
    let chosen : parts.given.chosen ≡ others.given.chosen =
    grants_once env under (guest_of one) (guest_of other) parts.given others.given rest more (ap (λ (s : State). s.machine) alike.state) parts.granted_by others.granted_by behind in (
      record {
        state = same_Some next.state far.state
            (sym parts.goes
            ∙ ap (λ (s : State). after s (does (slice_get items s.machine.taken) parts.given.chosen s.machine)) alike.state
            ∙ ap (λ (c : Option Choice). after other.state (does (slice_get items other.state.machine.taken) c other.state.machine)) chosen
            ∙ others.goes);
        choices = parts.choices ∙ ap (λ (cs : List Choice). cs ++ listed parts.given.chosen) alike.choices ∙ ap (λ (c : Option Choice). other.choices ++ listed c) chosen ∙ sym others.choices;
        steps = omega (arith, parts.steps, others.steps, alike.steps);
      },
      wrote_with limits items env one parts.given (lt-leb limits.budget one.state.machine.since parts.early) parts.kept_rule parts.granted_by
          ∙ ap (λ (s : State). written_by (does None parts.given.chosen s.machine) (slice_get items s.machine.taken) (Some parts.given) s.machine) alike.state
          ∙ written_given (does None parts.given.chosen other.state.machine) (slice_get items other.state.machine.taken) parts.given others.given other.state.machine chosen
          ∙ ap (λ (c : Option Choice). written_by (does None c other.state.machine) (slice_get items other.state.machine.taken) (Some others.given) other.state.machine) chosen
          ∙ sym (wrote_with limits items under other others.given (lt-leb limits.budget other.state.machine.since others.early) others.kept_rule others.granted_by),
    )

-- Two runs to one place, from two such places.
in_once : (limits : Limits) (items : List Item) (base : ℕ) (envs unders : List Env) (one other : Path) (before : List Bool) (second : Path) (after later : List Bool) → Alike one other → WritesIn limits items base envs one before second after
    → WritesIn limits items base unders other before second later → after ≡ later
in_once limits items base [] [] one other before second after later alike wrote writing = wrote.1 ∙ sym writing.1
in_once limits items base [] (under ∷ unders) one other before second after later alike wrote writing =
    let parts = serves_to limits items under other writing.0 writing.1 in
    let on = in_adds limits items base unders writing.0 (with_range base (writes limits items under other) before) second later writing.2 in
    let still : second.steps ≡ one.steps = ap (λ (p : Path). p.steps) wrote.0 in
    absurd (omega (arith, parts.steps, on.steps, still, alike.steps))
in_once limits items base (env ∷ envs) [] one other before second after later alike wrote writing =
    let parts = serves_to limits items env one wrote.0 wrote.1 in
    let on = in_adds limits items base envs wrote.0 (with_range base (writes limits items env one) before) second after wrote.2 in
    let still : second.steps ≡ other.steps = ap (λ (p : Path). p.steps) writing.0 in
    absurd (omega (arith, parts.steps, on.steps, still, alike.steps))
in_once limits items base (env ∷ envs) (under ∷ unders) one other before second after later alike wrote writing =
    let on = in_adds limits items base envs wrote.0 (with_range base (writes limits items env one) before) second after wrote.2 in
    let far = in_adds limits items base unders writing.0 (with_range base (writes limits items under other) before) second later writing.2 in
    let both = next_once limits items env under one other wrote.0 writing.0 on.others far.others alike wrote.1 writing.1 (sym on.chose ∙ far.chose) in
    in_once limits items base envs unders wrote.0 writing.0 (with_range base (writes limits items env one) before) second after later both.0 wrote.2
    (subst (λ (range : Option Range). WritesIn limits items base unders writing.0 (with_range base range before) second later) (sym both.1) writing.2)

pub writes_once : WritesOnce
writes_once limits items base first before second one other wrote writing =
    in_once limits items base wrote.envs writing.envs first first before second one other (record { state = refl; choices = refl; steps = refl }) wrote.goes writing.goes
