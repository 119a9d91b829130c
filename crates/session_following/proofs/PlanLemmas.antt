-- Plans that say the same up to a count of items have the same runs up to there.
use Rattle.trials.proofs.Going.{Before}
use Rattle.session_following.proofs.Terms.{Bool, List, Some, [], ap, arith, cond, inl, inr, ltb, subst, suc, sym, zero, ℕ, ◌+◌, ◌<◌, ◌∙◌, ◌∷◌, ◌≡◌, ◌≤◌, ◌⊎◌, cases_lt, le-ltb, lt-ltb, Item, Env, Image, serves_to, Limits, Override, Path, Served, env_at, origin, planned_next, served_next, later_of, served_on, served_same, Rules, Behind, Equal, compare, served_as, served_one, steps_later, taken_later, env_before, env_within, plan_up_to, UpToIsExact}
use Rattle.session_following.proofs.Based.{SaysAs}

-- the plan up to a count says the same there
pub up_to_same : (base : Env) (plan : List Override) (last count : ℕ) → count ≤ last → env_at base (plan_up_to base plan last) count ≡ env_at base plan count
unfolding plan_up_to
up_to_same base plan zero count few =
    let none : count ≡ 0 = omega (arith, few) in
    env_within base [] 0 1 (env_at base plan 0) count (omega arith) (omega (arith, none)) ∙ ap (env_at base plan) (sym none)
up_to_same base plan (suc last) count few =
    elim (cases_lt count (last + 1)) [
      | inl less ↦ env_before base (plan_up_to base plan last) (last + 1) (last + 2) (env_at base plan (last + 1)) count less ∙ up_to_same base plan last count (omega (arith, less))
      | inr most ↦
          let is : count ≡ last + 1 = omega (arith, few, most) in
          env_within base (plan_up_to base plan last) (last + 1) (last + 2) (env_at base plan (last + 1)) count most (omega (arith, is)) ∙ ap (env_at base plan) (sym is)
    ]

-- behind its last count an override leaves the base
env_past : (base : Env) (plan : List Override) (low until : ℕ) (env : Env) (count : ℕ) → low ≤ count → until ≤ count → env_at base (record { low = low; until = until; env = env } ∷ plan) count ≡ base
env_past base plan low until env count from past =
    ap (λ (b : Bool). cond b (env_at base plan count) (cond (ltb count until) env base)) (le-ltb count low from) ∙ ap (λ (b : Bool). cond b env base) (le-ltb count until past)

-- and the base later
pub up_to_later : (base : Env) (plan : List Override) (last count : ℕ) → last < count → env_at base (plan_up_to base plan last) count ≡ base
unfolding plan_up_to
up_to_later base plan zero count late = env_past base [] 0 1 (env_at base plan 0) count (omega arith) (omega (arith, late))
up_to_later base plan (suc last) count late = env_past base (plan_up_to base plan last) (last + 1) (last + 2) (env_at base plan (last + 1)) count (omega (arith, late)) (omega (arith, late))

-- so there its environment is in force up to the next item
pub up_to_env : (base : Env) (plan : List Override) (last count : ℕ) → last ≤ count → env_at base (plan_up_to base plan last) count ≡ cond (ltb count (last + 1)) (env_at base plan last) base
up_to_env base plan last count from =
    elim (cases_lt last count) [
      | inl later ↦ up_to_later base plan last count later ∙ ap (λ (b : Bool). cond b (env_at base plan last) base) (sym (le-ltb count (last + 1) (omega (arith, later))))
      | inr most ↦
          let is : count ≡ last = omega (arith, from, most) in
          up_to_same base plan last count most ∙ (ap (env_at base plan) is ∙ ap (λ (b : Bool). cond b (env_at base plan last) base) (sym (lt-ltb count (last + 1) (omega (arith, is)))))
    ]

-- Two plans that say the same at each count up to that of a run have the same run there.
pub says_alike : (rules : Rules) (image : Image) (items : List Item) (plan other : List Override) (now : Path) → ((count : ℕ) → count ≤ now.state.machine.taken → env_at rules.limits.base plan count ≡ env_at rules.limits.base other count) → SaysAs rules image items plan other now
says_alike rules image items plan other now alike = record {
  same = λ x y first then last.
      served_as rules.limits items plan other x y y.state.machine.taken
      (λ p q before early goes. ap (λ (e : Env). served_next rules.limits items e p) (sym (alike p.state.machine.taken (omega (arith, early, taken_later rules.limits items plan y now last)))) ∙ goes) (omega arith) then;
}

-- with as many instructions a run that goes on is itself
pub same_steps : (limits : Limits) (items : List Item) (plan : List Override) (first second : Path) → Served limits items plan first second → second.steps ≤ first.steps → first ≡ second
same_steps limits items plan first second served few =
    elim (later_of limits items plan first second served) [
      | inl same ↦ same
      | inr later ↦
          let steps = (serves_to limits items (env_at limits.base plan first.state.machine.taken) first later.next later.goes).steps in
          absurd (let last = steps_later limits items plan later.next second later.on in omega (arith, few, steps, last))
    ]

-- a run of one instruction
record IsNext (limits : Limits) (items : List Item) (plan : List Override) (first second : Path) : Type 0 where
  next : planned_next limits items plan first ≡ Some second

one_next : (limits : Limits) (items : List Item) (plan : List Override) (first second : Path) → Served limits items plan first second → second.steps ≡ first.steps + 1 → IsNext limits items plan first second
one_next limits items plan first second served one =
    elim (later_of limits items plan first second served) [
      | inl same ↦ absurd (let is : first.steps ≡ second.steps = ap (λ (p : Path). p.steps) same in omega (arith, is, one))
      | inr later ↦
          let steps = (serves_to limits items (env_at limits.base plan first.state.machine.taken) first later.next later.goes).steps in
          record { next = later.goes ∙ ap (λ (p : Path). Some p) (same_steps limits items plan later.next second later.on (omega (arith, one, steps))) }
    ]

-- Of two runs from one start the one with as many instructions, or more, goes on as the other.
pub goes_to : (limits : Limits) (items : List Item) (plan : List Override) (start x y : Path) → Served limits items plan start x → Served limits items plan start y → x.steps ≤ y.steps → Served limits items plan x y
goes_to limits items plan start x y one other few =
    elim (compare limits items plan start x y one other) [
      | Equal same ↦ subst (λ (p : Path). Served limits items plan x p) same (served_same limits items plan x)
      | Before later ↦ served_on limits items plan x later.next y (served_one limits items plan x later.next later.goes) later.on
      | Behind later ↦
          let steps = (serves_to limits items (env_at limits.base plan y.state.machine.taken) y later.next later.goes).steps in
          absurd (let last = steps_later limits items plan later.next x later.on in omega (arith, few, steps, last))
    ]

-- A run has just made one instruction more: two plans that say the same at each count up to the one before it have the same run there.
pub says_until : (rules : Rules) (image : Image) (items : List Item) (plan other : List Override) (mid now : Path) → Served rules.limits items plan (origin image) mid → Served rules.limits items plan mid now → now.steps ≡ mid.steps + 1
    → ((count : ℕ) → count ≤ mid.state.machine.taken → env_at rules.limits.base plan count ≡ env_at rules.limits.base other count) → SaysAs rules image items plan other now
says_until rules image items plan other mid now begins on one alike = record { same = λ x y first then last. by x y first then last (cases_lt y.steps now.steps) }
  where
    -- up to the instruction before
    early : (x y : Path) → Served rules.limits items plan (origin image) x → Served rules.limits items plan x y → Served rules.limits items plan y mid → Served rules.limits items other x y
    early = (says_alike rules image items plan other mid alike).same

    -- and with it
    last_one : IsNext rules.limits items plan mid now → Served rules.limits items other mid now
    last_one goes = served_one rules.limits items other mid now (ap (λ (e : Env). served_next rules.limits items e mid) (sym (alike mid.state.machine.taken (omega arith))) ∙ goes.next)

    to_now : (x : Path) → Served rules.limits items plan (origin image) x → Served rules.limits items plan x now → (x.steps < now.steps) ⊎ (now.steps ≤ x.steps) → Served rules.limits items other x now
    to_now x first then (inl less) =
        let to_mid = goes_to rules.limits items plan (origin image) x mid first begins (omega (arith, less, one)) in
        served_on rules.limits items other x mid now (early x mid first to_mid (served_same rules.limits items plan mid)) (last_one (one_next rules.limits items plan mid now on one))
    to_now x first then (inr most) = subst (λ (p : Path). Served rules.limits items other x p) (same_steps rules.limits items plan x now then most) (served_same rules.limits items other x)

    by : (x y : Path) → Served rules.limits items plan (origin image) x → Served rules.limits items plan x y → Served rules.limits items plan y now → (y.steps < now.steps) ⊎ (now.steps ≤ y.steps) → Served rules.limits items other x y
    by x y first then last (inl less) =
        let to_y = served_on rules.limits items plan (origin image) x y first then in
        early x y first then (goes_to rules.limits items plan (origin image) y mid to_y begins (omega (arith, less, one)))
    by x y first then last (inr most) =
        let is = same_steps rules.limits items plan y now last most in
        subst (λ (p : Path). Served rules.limits items other x p) (sym is) (to_now x first (subst (λ (p : Path). Served rules.limits items plan x p) is then) (cases_lt x.steps now.steps))

-- Up to no instruction all plans have the same run.
pub says_start : (rules : Rules) (image : Image) (items : List Item) (plan other : List Override) (now : Path) → now.steps ≡ 0 → SaysAs rules image items plan other now
says_start rules image items plan other now none = record {
  same = λ x y first then last.
      let late = steps_later rules.limits items plan y now last in
      subst (λ (p : Path). Served rules.limits items other x p) (same_steps rules.limits items plan x y then (omega (arith, late, none))) (served_same rules.limits items other x);
}

pub up_to_is_exact : UpToIsExact
up_to_is_exact base plan last count = (up_to_same base plan last count, up_to_later base plan last count)
