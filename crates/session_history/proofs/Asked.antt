-- A run that stands at its request for an item sends nothing more before it took that item.
use Rattle.alloc_env.specs.declared.env.Env.{Env}
use Rattle.run_history.specs.declared.answer.Cause.TheVariants.{BadAccess, Hang}
use Rattle.run_history.specs.Touching.{touched}
use Rattle.session_history.proofs.Terms.{Bool, List, None, Option, Some, [], ap, append-nil, arith, cond, false, inl, inr, leb, refl, replicate, subst, suc, sym, true, zero, ℕ, ◌++◌, ◌+◌, ◌∙◌, ◌∷◌, ◌≡◌, ◌⊎◌, length-replicate, none-some, same_Some, option_and_then, slice_get, Item, Send, Choice, repeated_add, repeated_from, repeated_keeps, element_behind, next_after, received_keeps, serves_to, takes, Fails, State, Wants, after, does, next, AsksFor, Grant, Guest, Limits, Override, Path, Served, does_with, env_at, grant, guest_of, is_refused, planned_next, serve, served_next, serves, AreBetween}
use Rattle.session_history.proofs.Growing.{Grows, grows_same, grows_on, run_grows}
use Rattle.run_history.proofs.Wanting.{wants_takes}

-- answers of the allocator, of which this one has this number
answers_with : Option Choice → ℕ → List Choice
answers_with None number = []
answers_with (Some choice) number = replicate number choice ++ choice ∷ []

answer_here : (chosen : Option Choice) (number : ℕ) → slice_get (answers_with chosen number) number ≡ chosen
unfolding answers_with
answer_here None number = refl
answer_here (Some choice) number = element_behind (replicate number choice) choice number (length-replicate number choice)

-- one instruction adds sends
pub next_grows : (limits : Limits) (items : List Item) (env : Env) (path to : Path) → served_next limits items env path ≡ Some to → Grows path.state to.state
next_grows limits items env path to goes =
    let parts = serves_to limits items env path to goes in
    let number = path.state.machine.allocations in
    let choices = answers_with parts.given.chosen number in
    run_grows items choices path.state to.state 1
    (next_after items choices path.state _ parts.lives (ap (λ (c : Option Choice). does (slice_get items path.state.machine.taken) c path.state.machine) (answer_here parts.given.chosen number)) ∙ parts.goes)

pub served_grows : (limits : Limits) (items : List Item) (plan : List Override) (first second : Path) → Served limits items plan first second → Grows first.state second.state
served_grows limits items plan first second served =
    repeated_keeps (planned_next limits items plan) (λ a b. Grows a.state b.state) (λ a. grows_same a.state) (λ a b c. grows_on a.state b.state c.state)
    (λ a b goes. next_grows limits items (env_at limits.base plan a.state.machine.taken) a b goes) served.more first second served.ran

-- the second run is the first with one more instruction or several
pub record Later (limits : Limits) (items : List Item) (plan : List Override) (first second : Path) : Type 0 where
  pub next : Path
  pub goes : planned_next limits items plan first ≡ Some next
  pub on : Served limits items plan next second

first_one : (limits : Limits) (items : List Item) (plan : List Override) (first second : Path) (n : ℕ) → serve limits items plan first (1 + n) ≡ Some second → Later limits items plan first second
first_one limits items plan first second n ran = of_next (planned_next limits items plan first) refl
  where
    of_next : (o : Option Path) → planned_next limits items plan first ≡ o → Later limits items plan first second
    of_next (Some next) is = record { next = next; goes = is; on = record { more = n; ran = sym (repeated_from (planned_next limits items plan) first next 1 n is) ∙ ran } }
    of_next None is =
        absurd (none-some second (sym (repeated_add (planned_next limits items plan) first 1 n ∙ ap (option_and_then (λ (y : Path). serve limits items plan y n)) is) ∙ ran))

pub later_of : (limits : Limits) (items : List Item) (plan : List Override) (first second : Path) → Served limits items plan first second → (first ≡ second) ⊎ Later limits items plan first second
later_of limits items plan first second served = by_count served.more served.ran
  where
    by_count : (n : ℕ) → serve limits items plan first n ≡ Some second → (first ≡ second) ⊎ Later limits items plan first second
    by_count zero ran = inl (same_Some first second ran)
    by_count (suc n) ran =
        let same : suc n ≡ 1 + n = omega arith in
        inr (first_one limits items plan first second n (subst (λ (k : ℕ). serve limits items plan first k ≡ Some second) same ran))

-- a guest that wants an item in an environment, by the answer of the allocator
pub record Waits (env : Env) (guest : Guest) : Type 0 where
  pub given : Grant
  pub wants : does None given.chosen guest.machine ≡ Wants

pub waits_of : (limits : Limits) (env : Env) (guest : Guest) → serves limits env None guest ≡ Wants → Waits env guest
unfolding serves
waits_of limits env guest asks = of_late (leb limits.budget guest.machine.since) (is_refused limits guest.heap (touched guest.machine)) (grant env guest) asks
  where
    of_late : (late refused : Bool) (given : Option Grant) → cond late (Fails Hang) (cond refused (Fails BadAccess) (does_with given None guest.machine)) ≡ Wants → Waits env guest
    of_late true refused given h = cc
    of_late false true given h = cc
    of_late false false None h = cc
    of_late false false (Some given) h = record { given = given; wants = h }

-- its next instruction took that item, and sent nothing
pub record TookOne (first second : Path) : Type 0 where
  pub taken : second.state.machine.taken ≡ first.state.machine.taken + 1
  pub sends : second.state.sends ≡ first.state.sends

pub asks_takes : (limits : Limits) (items : List Item) (plan : List Override) (path to : Path) (item : ℕ) → AsksFor limits plan path item → planned_next limits items plan path ≡ Some to → TookOne path to
asks_takes limits items plan path to item asks goes =
    let env = env_at limits.base plan path.state.machine.taken in
    let waits = waits_of limits env (guest_of path) asks.asks in
    let parts = serves_to limits items env path to goes in
    of_item (slice_get items path.state.machine.taken) (ap (after path.state) (sym (wants_takes path.state.machine waits.given.chosen waits.wants (slice_get items path.state.machine.taken) parts.given.chosen)) ∙ parts.goes)
  where
    of_item : (found : Option Item) → after path.state (takes path.state.machine found) ≡ Some to.state → TookOne path to
    of_item None h = absurd (none-some to.state h)
    of_item (Some it) h =
        let same = same_Some _ to.state h in
        record { taken = sym (ap (λ (s : State). s.machine.taken) same) ∙ (received_keeps it path.state.machine).taken; sends = sym (ap (λ (s : State). s.sends) same) }

-- what a run sends behind its request for an item, it sends with that item taken
pub record SendsLater (item : ℕ) (path now : Path) : Type 0 where
  pub more : List Send
  pub sends : now.state.sends ≡ path.state.sends ++ more
  pub between : AreBetween (item + 1) now.state.machine.taken more

pub sends_later : (limits : Limits) (items : List Item) (plan : List Override) (path now : Path) (item : ℕ) → AsksFor limits plan path item → Served limits items plan path now → SendsLater item path now
sends_later limits items plan path now item asks served =
    elim (later_of limits items plan path now served) [
      | inl same ↦ record { more = []; sends = ap (λ (p : Path). p.state.sends) (sym same) ∙ sym (append-nil path.state.sends); between = tt }
      | inr later ↦
          let took = asks_takes limits items plan path later.next item asks later.goes in
          let grows = served_grows limits items plan later.next now later.on in
          let count : later.next.state.machine.taken ≡ item + 1 = took.taken ∙ ap (λ n. n + 1) asks.taken in
          record {
            more = grows.more;
            sends = grows.sends ∙ ap (λ sends. sends ++ grows.more) took.sends;
            between = subst (λ n. AreBetween n now.state.machine.taken grows.more) count grows.between;
          }
    ]
