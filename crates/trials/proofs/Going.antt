-- What a served run adds, and how two runs from one place stand to each other.
use Rattle.trials.proofs.Terms.{List, Some, ap, arith, inl, inr, subst, suc, sym, zero, ℕ, ◌+◌, ◌-◌, ◌<◌, ◌∙◌, ◌≡◌, ◌≤◌, cases_lt, option_and_then_some, same_Some, option_and_then, Item, repeated_from, repeated_keeps, serves_to, Limits, Override, Path, Served, env_at, planned_next, serve, Later, later_of, served_grows, served_on}

-- no count of items falls
pub taken_later : (limits : Limits) (items : List Item) (plan : List Override) (first second : Path) → Served limits items plan first second → first.state.machine.taken ≤ second.state.machine.taken
taken_later limits items plan first second served = (served_grows limits items plan first second served).taken

pub steps_later : (limits : Limits) (items : List Item) (plan : List Override) (first second : Path) → Served limits items plan first second → first.steps ≤ second.steps
steps_later limits items plan first second served =
    repeated_keeps (planned_next limits items plan) (λ a b. a.steps ≤ b.steps) (λ a. omega arith) (λ a b c one other. omega (arith, one, other))
    (λ a b goes. let parts = serves_to limits items (env_at limits.base plan a.state.machine.taken) a b goes in omega (arith, parts.steps)) served.more first second served.ran

-- one instruction is a run
pub served_one : (limits : Limits) (items : List Item) (plan : List Override) (first second : Path) → planned_next limits items plan first ≡ Some second → Served limits items plan first second
served_one limits items plan first second goes = record { more = 1; ran = goes }

-- a run of no instruction leads to itself
pub nothing_before : (limits : Limits) (items : List Item) (plan : List Override) (first second : Path) → Served limits items plan first second → second.steps ≡ 0 → first ≡ second
nothing_before limits items plan first second served none = by_count served.more served.ran
  where
    by_count : (n : ℕ) → serve limits items plan first n ≡ Some second → first ≡ second
    by_count zero ran = same_Some first second ran
    by_count (suc n) ran =
        option_and_then_some (planned_next limits items plan) (serve limits items plan first n) second ran (λ mid before goes.
        let parts = serves_to limits items (env_at limits.base plan mid.state.machine.taken) mid second goes in absurd (omega (arith, parts.steps, none)))

pub later_served : (limits : Limits) (items : List Item) (plan : List Override) (first second : Path) → Later limits items plan first second → Served limits items plan first second
later_served limits items plan first second later = served_on limits items plan first later.next second (served_one limits items plan first later.next later.goes) later.on

-- and it counts more instructions
pub later_steps : (limits : Limits) (items : List Item) (plan : List Override) (first second : Path) → Later limits items plan first second → first.steps < second.steps
later_steps limits items plan first second later =
    omega (arith, (serves_to limits items (env_at limits.base plan first.state.machine.taken) first later.next later.goes).steps, steps_later limits items plan later.next second later.on)

-- Of two runs from one place under one plan, one is the other or goes on as it.
pub data Compared (limits : Limits) (items : List Item) (plan : List Override) (first second : Path) : Type 0 where
  Equal : first ≡ second → Compared limits items plan first second
  Before : Later limits items plan first second → Compared limits items plan first second
  Behind : Later limits items plan second first → Compared limits items plan first second

-- so many instructions, and some more, from one place
on_from : (limits : Limits) (items : List Item) (plan : List Override) (start first second : Path) (n m : ℕ) → n ≤ m → serve limits items plan start n ≡ Some first → serve limits items plan start m ≡ Some second → Served limits items plan first second
on_from limits items plan start first second n m few one other =
    let same : n + (m - n) ≡ m = omega (arith, few) in
    record {
      more = m - n;
      ran = sym (repeated_from (planned_next limits items plan) start first n (m - n) one) ∙ ap (λ (k : ℕ). serve limits items plan start k) same ∙ other;
    }

pub compare : (limits : Limits) (items : List Item) (plan : List Override) (start first second : Path) → Served limits items plan start first → Served limits items plan start second → Compared limits items plan first second
compare limits items plan start first second one other =
    elim (cases_lt one.more other.more) [
      | inl less ↦ elim (later_of limits items plan first second (on_from limits items plan start first second one.more other.more (omega (arith, less)) one.ran other.ran)) [
        | inl same ↦ Equal same
        | inr later ↦ Before later
      ]
      | inr most ↦ elim (later_of limits items plan second first (on_from limits items plan start second first other.more one.more most other.ran one.ran)) [
        | inl same ↦ Equal (sym same)
        | inr later ↦ Behind later
      ]
    ]

-- a step is one step: where the first goes on as the second, and is one instruction long, all else goes on from there
pub same_next : (limits : Limits) (items : List Item) (plan : List Override) (first second to : Path) → Later limits items plan first second → planned_next limits items plan first ≡ Some to → Served limits items plan to second
same_next limits items plan first second to later goes =
    subst (λ (p : Path). Served limits items plan p second) (same_Some later.next to (sym later.goes ∙ goes)) later.on

-- A run under one plan is one under another, where each instruction on the way is.
pub served_as : (limits : Limits) (items : List Item) (plan other : List Override) (first last : Path) (bound : ℕ)
    → ((now to : Path) → Served limits items plan first now → now.state.machine.taken ≤ bound → planned_next limits items plan now ≡ Some to → planned_next limits items other now ≡ Some to)
    → last.state.machine.taken ≤ bound → Served limits items plan first last → Served limits items other first last
served_as limits items plan other first last bound step low served = record { more = served.more; ran = by_count served.more last low served.ran }
  where
    by_count : (n : ℕ) (last : Path) → last.state.machine.taken ≤ bound → serve limits items plan first n ≡ Some last → serve limits items other first n ≡ Some last
    by_count zero last low ran = ran
    by_count (suc n) last low ran =
        option_and_then_some (planned_next limits items plan) (serve limits items plan first n) last ran (λ mid before goes.
        let early : mid.state.machine.taken ≤ bound = omega (arith, low, taken_later limits items plan mid last (served_one limits items plan mid last goes)) in
        ap (option_and_then (planned_next limits items other)) (by_count n mid early before)
        ∙ step mid last (record { more = n; ran = before }) early goes)
