-- A served run has few instructions: at most the budget and one for each item that it took, and as many for the wait for
-- the next one. And it takes no more items than there are.
use Rattle.run_history.proofs.Serves.{serves_to}
use Rattle.rx_serve.proofs.Terms.{List, None, Option, Some, ap, arith, length, refl, sym, ℕ, ◌*◌, ◌+◌, ◌<◌, ◌∙◌, ◌≡◌, ◌≤◌, none-some, slice_get_within, slice_get, Item, Choice, Image, repeated_keeps, allocated_keeps, received_keeps, allocated, Machine, State, start, after, does, Limits, Override, Path, Served, env_at, origin, planned_next, ByChoice, ByEnd, ByItem, ByItself, BySend, Moved, moved}

-- what one instruction does to the counts: it is one more since the last item, or took an item, or ended the program
data Counts (s t : State) : Type 0 where
  Rises : t.machine.taken ≡ s.machine.taken → t.machine.since ≡ s.machine.since + 1 → Counts s t
  Receives : t.machine.taken ≡ s.machine.taken + 1 → t.machine.since ≡ 0 → Counts s t
  Stops : t.machine ≡ s.machine → (code : ℕ) → t.ended ≡ Some code → Counts s t

rises_to : (s t : State) (new : Machine) → t.machine ≡ new → new.taken ≡ s.machine.taken → new.since ≡ s.machine.since + 1 → Counts s t
rises_to s t new is taken since = Rises (ap (λ (m : Machine). m.taken) is ∙ taken) (ap (λ (m : Machine). m.since) is ∙ since)

-- after any instruction
does_counts : (s t : State) (item : Option Item) (choice : Option Choice) → after s (does item choice s.machine) ≡ Some t → Counts s t
does_counts s t item choice goes = by (moved s t item choice goes)
  where
    machine_is : (u : State) → u ≡ t → t.machine ≡ u.machine
    machine_is u is = ap (λ (v : State). v.machine) (sym is)

    by : Moved s t item choice → Counts s t
    by (ByItself m alone is) = rises_to s t m (machine_is _ is) alone.taken alone.since
    by (BySend conn bytes m alone is) = rises_to s t m (machine_is _ is) alone.0.taken alone.0.since
    by (ByEnd code is) = Stops (machine_is _ is) code (ap (λ (v : State). v.ended) (sym is))
    by (ByItem it at is) =
        let keeps = received_keeps it s.machine in
        Receives (ap (λ (m : Machine). m.taken) (machine_is _ is) ∙ keeps.taken) (ap (λ (m : Machine). m.since) (machine_is _ is) ∙ keeps.since)
    by (ByChoice ask it at may is) =
        let keeps = allocated_keeps it s.machine in
        rises_to s t (allocated it s.machine) (machine_is _ is) keeps.taken keeps.since

-- Each instruction behind so many first ones is counted by the items that were taken or by those since the last one, but for the one that ended the
-- program; and there are no more since the last item than the budget.
record IsFew (first budget : ℕ) (path : Path) : Type 0 where
  living : path.state.ended ≡ None → path.steps ≤ first + path.state.machine.taken * (budget + 1) + path.state.machine.since
  all : path.steps ≤ first + path.state.machine.taken * (budget + 1) + budget + 1

-- one more instruction, in numbers
risen : (first budget taken since steps later after more : ℕ) → later ≡ taken → after ≡ since + 1 → more ≡ steps + 1 → steps ≤ first + taken * (budget + 1) + since
    → more ≤ first + later * (budget + 1) + after
risen first budget taken since steps later after more same rises counts bound = rw same (omega arith)

begun : (first budget taken since steps later after more : ℕ) → later ≡ taken + 1 → after ≡ 0 → more ≡ steps + 1 → since < budget → steps ≤ first + taken * (budget + 1) + since
    → more ≤ first + later * (budget + 1) + after
begun first budget taken since steps later after more one none counts early bound = rw (one, none) (omega arith)

counts_few : (first budget : ℕ) (path to : Path) → Counts path.state to.state → path.state.ended ≡ None → path.state.machine.since < budget → to.steps ≡ path.steps + 1 → IsFew first budget path → IsFew first budget to
counts_few first budget path to (Rises taken since) lives early counts few =
    let bound = risen first budget path.state.machine.taken path.state.machine.since path.steps to.state.machine.taken to.state.machine.since to.steps taken since counts (few.living lives) in
    record { living = λ last. bound; all = omega (arith, bound, since, early) }
counts_few first budget path to (Receives taken since) lives early counts few =
    let bound = begun first budget path.state.machine.taken path.state.machine.since path.steps to.state.machine.taken to.state.machine.since to.steps taken since counts early (few.living lives) in
    record { living = λ last. bound; all = omega (arith, bound, since) }
counts_few first budget path to (Stops is code ended) lives early counts few = record {
  living = λ last. absurd (none-some code (sym last ∙ ended));
  all = rw is (omega (arith, counts, early, few.living lives));
}

-- one more instruction of a run under a plan
next_few : (first : ℕ) (limits : Limits) (items : List Item) (plan : List Override) (path to : Path) → planned_next limits items plan path ≡ Some to → IsFew first limits.budget path → IsFew first limits.budget to
next_few first limits items plan path to goes few =
    let parts = serves_to limits items (env_at limits.base plan path.state.machine.taken) path to goes in
    counts_few first limits.budget path to (does_counts path.state to.state _ parts.given.chosen parts.goes) parts.lives parts.early parts.steps few

-- A run that is served from somewhere on has behind that no more instructions than the budget and one for each item that it took, and as many after the
-- last one.
pub few_behind : (limits : Limits) (items : List Item) (plan : List Override) (from path : Path) → Served limits items plan from path
    → path.steps ≤ from.steps + path.state.machine.taken * (limits.budget + 1) + limits.budget + 1
few_behind limits items plan from path served =
    let few =
    repeated_keeps (planned_next limits items plan) (λ x y. IsFew from.steps limits.budget x → IsFew from.steps limits.budget y)
    (λ x few. few) (λ x y z one other few. other (one few)) (next_few from.steps limits items plan)
    served.more from path served.ran (record { living = λ lives. omega arith; all = omega arith }) in
    few.all

-- so has one from the program's start on
pub few_steps : (limits : Limits) (items : List Item) (plan : List Override) (image : Image) (path : Path) → Served limits items plan (origin image) path
    → path.steps ≤ path.state.machine.taken * (limits.budget + 1) + limits.budget + 1
few_steps limits items plan image path served = let few = few_behind limits items plan (origin image) path served in omega (arith, few)

-- ---- items

takes_few : (most : ℕ) (items : List Item) (s t : State) (choice : Option Choice) → after s (does (slice_get items s.machine.taken) choice s.machine) ≡ Some t → length items ≤ most → s.machine.taken ≤ most
    → t.machine.taken ≤ most
takes_few most items s t choice goes few low = by (moved s t (slice_get items s.machine.taken) choice goes)
  where
    same : (new : Machine) (u : State) → u ≡ t → u.machine ≡ new → new.taken ≡ s.machine.taken → t.machine.taken ≤ most
    same new u is machine taken =
        let here : t.machine.taken ≡ s.machine.taken = ap (λ (v : State). v.machine.taken) (sym is) ∙ ap (λ (m : Machine). m.taken) machine ∙ taken in
        omega (arith, here, low)

    by : Moved s t (slice_get items s.machine.taken) choice → t.machine.taken ≤ most
    by (ByItself m alone is) = same m _ is refl alone.taken
    by (BySend conn bytes m alone is) = same m _ is refl alone.0.taken
    by (ByEnd code is) = same s.machine _ is refl refl
    by (ByItem it at is) =
        let here : t.machine.taken ≡ s.machine.taken + 1 = ap (λ (v : State). v.machine.taken) (sym is) ∙ (received_keeps it s.machine).taken in
        let below : s.machine.taken < length items = slice_get_within items s.machine.taken it at in
        omega (arith, here, below, few)
    by (ByChoice ask it at may is) = same (allocated it s.machine) _ is refl (allocated_keeps it s.machine).taken

-- a run that is served from somewhere on takes no more items than there are, or than it had taken there
pub few_taken : (limits : Limits) (items : List Item) (plan : List Override) (from path : Path) (most : ℕ) → Served limits items plan from path → length items ≤ most → from.state.machine.taken ≤ most
    → path.state.machine.taken ≤ most
few_taken limits items plan from path most served few low =
    repeated_keeps (planned_next limits items plan) (λ x y. x.state.machine.taken ≤ most → y.state.machine.taken ≤ most)
    (λ x low. low) (λ x y z one other low. other (one low))
    (λ x y goes low.
    let parts = serves_to limits items (env_at limits.base plan x.state.machine.taken) x y goes in
    takes_few most items x.state y.state parts.given.chosen parts.goes few low)
    served.more from path served.ran low
