-- A run that follows stood nowhere before where it had reached what was handed over: so it stays as it goes on, and as more items come.
use Rattle.session_following.proofs.Terms.{List, Some, [], ap, arith, inl, inr, length, length-append, refl, subst, suc, sym, zero, ℕ, ◌++◌, ◌+◌, ◌<◌, ◌∙◌, ◌∷◌, ◌≡◌, ◌≤◌, ◌⊎◌, cases_lt, option_and_then_some, same_Some, Item, LinkEvent, Image, serves_to, AsksFor, Limits, Override, Path, Served, env_at, origin, planned_next, serve, later_of, served_on, served_with, Rules, taken_later, apart_asks_fails, apart_ended, asks_on, ended_on, fails_on, AsksForMore, AtExit, AtFailure, AtRequest, Handed, HasReached, Stand, plan_of, HasAskedBefore, HasNotReached, IsNotReached, NotReachedStays}
use Rattle.session_following.proofs.PlanLemmas.{goes_to, same_steps}

module _ (limits : Limits) (items : List Item) (image : Image) (handed : Handed) (now : Path) where
  -- a run that stands at a place goes on from there to no other one without taking an item
  no_stand : (path to : Path) → Stand limits (plan_of limits.keep handed.episodes) path → Served limits items (plan_of limits.keep handed.episodes) path to → to.state.machine.taken ≤ path.state.machine.taken → path.steps < to.steps → ⊥
  no_stand path to there on few less =
      elim (later_of limits items (plan_of limits.keep handed.episodes) path to on) [
        | inl same ↦ let is : path.steps ≡ to.steps = ap (λ (p : Path). p.steps) same in omega (arith, is, less)
        | inr later ↦ elim there [
          | AtRequest asks ↦ let took = asks_on limits items (plan_of limits.keep handed.episodes) path to path.state.machine.taken asks later in omega (arith, took, few)
          | AtExit ended ↦ ended_on limits items (plan_of limits.keep handed.episodes) path to ended later
          | AtFailure cause fails ↦ fails_on limits items (plan_of limits.keep handed.episodes) path to cause fails later
        ]
      ]

  -- it goes on without taking an item
  pub not_on : (to : Path) → HasNotReached limits items image handed now → Served limits items (plan_of limits.keep handed.episodes) (origin image) now → Served limits items (plan_of limits.keep handed.episodes) now to → to.state.machine.taken ≡ now.state.machine.taken
      → HasNotReached limits items image handed to
  not_on to before begins on still path there served less = of (cases_lt path.steps now.steps)
    where
      plan : List Override
      plan = plan_of limits.keep handed.episodes

      of : (path.steps < now.steps) ⊎ (now.steps ≤ path.steps) → ¬ HasReached limits handed path there
      of (inl earlier) = before path there served earlier
      of (inr later) =
          let from = goes_to limits items plan (origin image) now path begins served later in
          let whole = served_on limits items plan (origin image) now to begins on in
          let ahead = goes_to limits items plan (origin image) path to served whole (omega (arith, less)) in
          absurd (no_stand path to there ahead (let low = taken_later limits items plan now path from in omega (arith, low, still)) less)

  -- and it goes on by one instruction
  pub not_next : (to : Path) → HasNotReached limits items image handed now → IsNotReached limits handed now → Served limits items (plan_of limits.keep handed.episodes) (origin image) now → to.steps ≡ now.steps + 1 → HasNotReached limits items image handed to
  not_next to before here begins one path there served less = of (cases_lt path.steps now.steps)
    where
      plan : List Override
      plan = plan_of limits.keep handed.episodes

      of : (path.steps < now.steps) ⊎ (now.steps ≤ path.steps) → ¬ HasReached limits handed path there
      of (inl earlier) = before path there served earlier
      of (inr later) =
          let same : now ≡ path = same_steps limits items plan now path (goes_to limits items plan (origin image) now path begins served later) (omega (arith, less, one)) in
          subst (λ (p : Path). (stand : Stand limits plan p) → ¬ HasReached limits handed p stand) same here there

-- as many instructions more as were made
steps_are : (limits : Limits) (items : List Item) (plan : List Override) (first second : Path) (n : ℕ) → serve limits items plan first n ≡ Some second → second.steps ≡ first.steps + n
steps_are limits items plan first second zero ran = let same : first.steps ≡ second.steps = ap (λ (p : Path). p.steps) (same_Some first second ran) in omega (arith, same)
steps_are limits items plan first second (suc n) ran =
    option_and_then_some (planned_next limits items plan) (serve limits items plan first n) second ran (λ mid before goes.
    let one = (serves_to limits items (env_at limits.base plan mid.state.machine.taken) mid second goes).steps in
    let all = steps_are limits items plan first mid n before in
    omega (arith, one, all))

-- the front of a run
record HasFront (limits : Limits) (items : List Item) (plan : List Override) (first : Path) (n : ℕ) : Type 0 where
  path : Path
  ran : serve limits items plan first n ≡ Some path

front_of : (limits : Limits) (items : List Item) (plan : List Override) (first second : Path) (n m : ℕ) → n ≤ m → serve limits items plan first m ≡ Some second → HasFront limits items plan first n
front_of limits items plan first second n zero few ran = record { path = second; ran = let none : n ≡ 0 = omega (arith, few) in ap (λ (k : ℕ). serve limits items plan first k) none ∙ ran }
front_of limits items plan first second n (suc m) few ran =
    elim (cases_lt n (suc m)) [
      | inl less ↦ option_and_then_some (planned_next limits items plan) (serve limits items plan first m) second ran (λ mid before goes. front_of limits items plan first mid n m (omega (arith, less)) before)
      | inr most ↦ record { path = second; ran = let is : n ≡ suc m = omega (arith, few, most) in ap (λ (k : ℕ). serve limits items plan first k) is ∙ ran }
    ]

-- more items come
pub not_more : (limits : Limits) (items more all : List Item) (image : Image) (handed : Handed) (now : Path) → all ≡ items ++ more → Served limits items (plan_of limits.keep handed.episodes) (origin image) now → HasNotReached limits items image handed now → HasNotReached limits all image handed now
not_more limits items more all image handed now grown begins before path there served less =
    let plan : List Override = plan_of limits.keep handed.episodes in
    let whole = steps_are limits items plan (origin image) now begins.more begins.ran in
    let parts = steps_are limits all plan (origin image) path served.more served.ran in
    let front = front_of limits items plan (origin image) now served.more begins.more (omega (arith, whole, parts, less)) begins.ran in
    let early : Served limits items plan (origin image) front.path = record { more = served.more; ran = front.ran } in
    let wide : Served limits all plan (origin image) front.path = subst (λ (its : List Item). Served limits its plan (origin image) front.path) (sym grown) (served_with limits items more plan (origin image) front.path early) in
    let count = steps_are limits items plan (origin image) front.path served.more front.ran in
    let same : front.path ≡ path = same_steps limits all plan front.path path (goes_to limits all plan (origin image) front.path path wide served (omega (arith, count, parts))) (omega (arith, count, parts)) in
    before path there (subst (λ (p : Path). Served limits items plan (origin image) p) same early) less

pub not_reached_stays : NotReachedStays
not_reached_stays rules items more image handed now served before = not_more rules.limits items more (items ++ more) image handed now refl served before

-- one more event stands among some, or is the last
data Placed (events : List LinkEvent) (last event : LinkEvent) (front : List LinkEvent) : Type 0 where
  IsLast : events ≡ front → Placed events last event front
  IsWithin : (back : List LinkEvent) → events ≡ front ++ event ∷ back → Placed events last event front

placed : (events front back : List LinkEvent) {last event : LinkEvent} → events ++ last ∷ [] ≡ front ++ event ∷ back → Placed events last event front
placed [] [] back is = IsLast refl
placed [] (first ∷ front) back {last = last} {event = event} is = absurd (let no : length (last ∷ []) ≡ length (first ∷ (front ++ event ∷ back)) = ap length is in omega (arith, no, length-append front (event ∷ back)))
placed (first ∷ events) [] back {event = event} is = let same : first ≡ event = cc (is) in IsWithin events (ap (λ (e : LinkEvent). e ∷ events) same)
placed (first ∷ events) (head ∷ front) back {last = last} {event = event} is =
    let same : first ≡ head = cc (is) in
    let rest : events ++ last ∷ [] ≡ front ++ event ∷ back = cc (is) in
    behind (placed events front back rest) same
  where
    behind : Placed events last event front → first ≡ head → Placed (first ∷ events) last event (head ∷ front)
    behind (IsLast it) same = IsLast (ap (λ (e : LinkEvent). e ∷ events) same ∙ ap (λ (es : List LinkEvent). head ∷ es) it)
    behind (IsWithin more split) same = IsWithin more (ap (λ (e : LinkEvent). e ∷ events) same ∙ ap (λ (es : List LinkEvent). head ∷ es) split)

-- an event is heard where the run asks for more
pub asked_then : (rules : Rules) (image : Image) (handed : Handed) (events : List LinkEvent) (event : LinkEvent) → HasAskedBefore rules image handed events → AsksForMore rules image handed events → HasAskedBefore rules image handed (events ++ event ∷ [])
asked_then rules image handed events event before now front back one split =
    elim (placed events front back split) [
      | IsLast is ↦ subst (AsksForMore rules image handed) is now
      | IsWithin more within ↦ before front more one within
    ]

-- where it stands at its request it stands nowhere else, so what isn't reached there isn't reached
pub not_at_request : (limits : Limits) (handed : Handed) (path : Path) (asks : AsksFor limits (plan_of limits.keep handed.episodes) path path.state.machine.taken) → ¬ HasReached limits handed path (AtRequest asks) → IsNotReached limits handed path
not_at_request limits handed path asks none (AtRequest other) reached = none (record { past = reached.past; chose = reached.chose; finished = reached.finished; covers = reached.covers })
not_at_request limits handed path asks none (AtExit ended) reached = apart_ended path asks.lives ended
not_at_request limits handed path asks none (AtFailure cause fails) reached = apart_asks_fails limits (plan_of limits.keep handed.episodes) path path.state.machine.taken cause asks fails
