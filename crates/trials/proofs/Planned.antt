-- A run that was made in one environment is one under the plan of its trial.
use Rattle.session_notes.specs.declared.episode.Tried.TheVariants as tried
use Rattle.trials.proofs.Terms.{Bool, List, None, [], ap, arith, cond, eqb, inl, inr, ltb, subst, sym, ℕ, ◌+◌, ◌<◌, ◌∙◌, ◌∷◌, ◌≡◌, ◌≤◌, ◌⊎◌, cond_both, eqb-false, le-ltb, lt-ltb, Item, Send, Env, Image, Cause, Fails, Wants, start, start_machine, AsksFor, FailsBy, Limits, Override, Path, Served, env_at, guest_of, origin, planned_next, served_next, serves, asks_takes, later_of, Covers, Tried, ComesTo, IsBehindAt, IsContradicted, IsPast, plan_of_trial, IsCheckpoint, TrialComes, TrialServes, everywhere}
use Rattle.trials.proofs.Asking.{asks_under_all, asks_next}
use Rattle.trials.proofs.Going.{taken_later, served_as}

-- the environment of the latest override, and of those before it
pub env_within : (base : Env) (plan : List Override) (low until : ℕ) (env : Env) (count : ℕ) → low ≤ count → count < until → env_at base (record { low = low; until = until; env = env } ∷ plan) count ≡ env
env_within base plan low until env count from to =
    ap (λ (b : Bool). cond b (env_at base plan count) (cond (ltb count until) env base)) (le-ltb count low from) ∙ ap (λ (b : Bool). cond b env base) (lt-ltb count until to)

pub env_before : (base : Env) (plan : List Override) (low until : ℕ) (env : Env) (count : ℕ) → count < low → env_at base (record { low = low; until = until; env = env } ∷ plan) count ≡ env_at base plan count
env_before base plan low until env count before = ap (λ (b : Bool). cond b (env_at base plan count) (cond (ltb count until) env base)) (lt-ltb count low before)

-- from there on, until so many items more than the point were taken, it is in force
pub in_force : (base : Env) (keep : ℕ) (plan : List Override) (checkpoint : ℕ) (env : Env) (point count : ℕ) → (checkpoint ≡ 0) ⊎ (checkpoint < count) → count < point + keep → env_at base (everywhere keep env point) count ≡ env_at base (plan_of_trial keep plan checkpoint env point) count
in_force base keep plan checkpoint env point count from to =
    env_within base [] 0 (point + keep) env count (omega arith) to ∙ sym (env_within base plan (cond (eqb checkpoint 0) 0 (checkpoint + 1)) (point + keep) env count (low from) to)
  where
    of_past : (checkpoint ≡ 0) ⊎ (checkpoint < count) → (checkpoint ≡ 0 → ⊥) → checkpoint + 1 ≤ count
    of_past (inl none) some = absurd (some none)
    of_past (inr past) some = omega (arith, past)

    low : (checkpoint ≡ 0) ⊎ (checkpoint < count) → cond (eqb checkpoint 0) 0 (checkpoint + 1) ≤ count
    low from = cond_both (eqb checkpoint 0) 0 (checkpoint + 1) (λ n. n ≤ count) (λ _. omega arith) (λ some. of_past from (eqb-false checkpoint 0 some))

-- a run that stands at its request, or has taken that item
pub past_request : (limits : Limits) (items : List Item) (plan : List Override) (checkpoint path : Path) → AsksFor limits [] checkpoint checkpoint.state.machine.taken → Served limits items plan checkpoint path
    → (checkpoint ≡ path) ⊎ (checkpoint.state.machine.taken < path.state.machine.taken)
past_request limits items plan checkpoint path asks served =
    elim (later_of limits items plan checkpoint path served) [
      | inl same ↦ inl same
      | inr later ↦
          let took = asks_takes limits items plan checkpoint later.next checkpoint.state.machine.taken (asks_under_all limits [] plan checkpoint checkpoint.state.machine.taken asks) later.goes in
          inr (omega (arith, took.taken, taken_later limits items plan later.next path later.on))
    ]

-- the start took no item
pub start_taken : (image : Image) (checkpoint : Path) → checkpoint ≡ origin image → checkpoint.state.machine.taken ≡ 0
unfolding start start_machine
start_taken image checkpoint is = ap (λ (p : Path). p.state.machine.taken) is

-- on a trial's way its environment is in force, or the run asks for an item, at the checkpoint itself
pub on_way : (limits : Limits) (items : List Item) (image : Image) (plan : List Override) (env : Env) (point : ℕ) (checkpoint path : Path) → IsCheckpoint limits image checkpoint → path.state.machine.taken < point + limits.keep
    → Served limits items (everywhere limits.keep env point) checkpoint path
    → (env_at limits.base (everywhere limits.keep env point) path.state.machine.taken ≡ env_at limits.base (plan_of_trial limits.keep plan checkpoint.state.machine.taken env point) path.state.machine.taken) ⊎ AsksFor limits [] path path.state.machine.taken
on_way limits items image plan env point checkpoint path (inl is) low served =
    inl (in_force limits.base limits.keep plan checkpoint.state.machine.taken env point path.state.machine.taken (inl (start_taken image checkpoint is)) low)
on_way limits items image plan env point checkpoint path (inr asks) low served =
    elim (past_request limits items (everywhere limits.keep env point) checkpoint path asks.1 served) [
      | inl same ↦ inr (subst (λ (p : Path). AsksFor limits [] p p.state.machine.taken) same asks.1)
      | inr past ↦ inl (in_force limits.base limits.keep plan checkpoint.state.machine.taken env point path.state.machine.taken (inr past) low)
    ]

-- so each instruction is the same
pub way_next : (limits : Limits) (items : List Item) (image : Image) (plan : List Override) (env : Env) (point : ℕ) (checkpoint path : Path) → IsCheckpoint limits image checkpoint → path.state.machine.taken < point + limits.keep
    → Served limits items (everywhere limits.keep env point) checkpoint path
    → planned_next limits items (everywhere limits.keep env point) path ≡ planned_next limits items (plan_of_trial limits.keep plan checkpoint.state.machine.taken env point) path
way_next limits items image plan env point checkpoint path at_start low served =
    elim (on_way limits items image plan env point checkpoint path at_start low served) [
      | inl same ↦ ap (λ (e : Env). served_next limits items e path) same
      | inr asks ↦
          asks_next limits items (everywhere limits.keep env point) (plan_of_trial limits.keep plan checkpoint.state.machine.taken env point) path path.state.machine.taken
          (asks_under_all limits [] (everywhere limits.keep env point) path path.state.machine.taken asks)
    ]

pub trial_serves : TrialServes
trial_serves limits items image plan env point checkpoint path at_start low served =
    served_as limits items (everywhere limits.keep env point) (plan_of_trial limits.keep plan checkpoint.state.machine.taken env point) checkpoint path path.state.machine.taken
    (λ now to before early goes. sym (way_next limits items image plan env point checkpoint now at_start (omega (arith, early, low)) before) ∙ goes) (omega arith) served

-- so is a failure
way_fails : (limits : Limits) (items : List Item) (image : Image) (plan : List Override) (env : Env) (point : ℕ) (checkpoint path : Path) (cause : Cause) → IsCheckpoint limits image checkpoint → path.state.machine.taken < point + limits.keep
    → Served limits items (everywhere limits.keep env point) checkpoint path → FailsBy limits (everywhere limits.keep env point) path cause → FailsBy limits (plan_of_trial limits.keep plan checkpoint.state.machine.taken env point) path cause
way_fails limits items image plan env point checkpoint path cause at_start low served fails =
    elim (on_way limits items image plan env point checkpoint path at_start low served) [
      | inl same ↦ record { lives = fails.lives; fails = ap (λ (e : Env). serves limits e None (guest_of path)) (sym same) ∙ fails.fails }
      | inr asks ↦
          let never : Wants ≡ Fails cause = sym (asks_under_all limits [] (everywhere limits.keep env point) path path.state.machine.taken asks).asks ∙ fails.fails in
          absurd (cc)
    ]

-- what was sent under one plan was so under the other
way_contradicts : (limits : Limits) (items : List Item) (image : Image) (plan : List Override) (env : Env) (point : ℕ) (checkpoint path : Path) (pieces : List Send) → 1 ≤ limits.keep → IsCheckpoint limits image checkpoint
    → IsContradicted limits items (everywhere limits.keep env point) checkpoint pieces point path → IsContradicted limits items (plan_of_trial limits.keep plan checkpoint.state.machine.taken env point) checkpoint pieces point path
way_contradicts limits items image plan env point checkpoint path pieces some at_start was =
    let low : was.before.state.machine.taken < point + limits.keep = omega (arith, some, was.unharmed.early) in
    record {
      before = was.before;
      from = trial_serves limits items image plan env point checkpoint was.before at_start low was.from;
      unharmed = was.unharmed;
      next = sym (way_next limits items image plan env point checkpoint was.before at_start low was.from) ∙ was.next;
      no_item = was.no_item;
      conn = was.conn;
      differs = was.differs;
    }

way_past : (limits : Limits) (plan other : List Override) (point : ℕ) (path : Path) → IsPast limits plan point path → IsPast limits other point path
way_past limits plan other point path (inl asks) = inl (asks_under_all limits plan other path point asks)
way_past limits plan other point path (inr ended) = inr ended

-- where a trial ends it took no more items than the point
pub in_time : (limits : Limits) (items : List Item) (plan : List Override) (checkpoint : Path) (pieces : List Send) (point : ℕ) (path : Path) (result : Tried) → ComesTo limits items plan checkpoint pieces point path result → path.state.machine.taken ≤ point
in_time limits items plan checkpoint pieces point path tried.Asks comes = comes.0.early
in_time limits items plan checkpoint pieces point path (tried.Exits code) comes = comes.0.early
in_time limits items plan checkpoint pieces point path (tried.Failed cause) comes = comes.0.early
in_time limits items plan checkpoint pieces point path tried.Contradicts comes = omega (arith, comes.unharmed.early, comes.no_item)
in_time limits items plan checkpoint pieces point path tried.Behind comes = comes.0.early

comes_so : (limits : Limits) (items : List Item) (image : Image) (plan : List Override) (env : Env) (point : ℕ) (checkpoint path : Path) (pieces : List Send) (result : Tried) → 1 ≤ limits.keep → IsCheckpoint limits image checkpoint → path.state.machine.taken < point + limits.keep
    → Served limits items (everywhere limits.keep env point) checkpoint path → ComesTo limits items (everywhere limits.keep env point) checkpoint pieces point path result
    → ComesTo limits items (plan_of_trial limits.keep plan checkpoint.state.machine.taken env point) checkpoint pieces point path result
comes_so limits items image plan env point checkpoint path pieces tried.Asks some at_start low served comes =
    (comes.0, asks_under_all limits (everywhere limits.keep env point) (plan_of_trial limits.keep plan checkpoint.state.machine.taken env point) path point comes.1, comes.2)
comes_so limits items image plan env point checkpoint path pieces (tried.Exits code) some at_start low served comes = comes
comes_so limits items image plan env point checkpoint path pieces (tried.Failed cause) some at_start low served comes =
    (comes.0, way_fails limits items image plan env point checkpoint path cause at_start low served comes.1)
comes_so limits items image plan env point checkpoint path pieces tried.Contradicts some at_start low served comes = way_contradicts limits items image plan env point checkpoint path pieces some at_start comes
comes_so limits items image plan env point checkpoint path pieces tried.Behind some at_start low served comes = (comes.0, of_either comes.1)
  where
    of_either : ((item : ℕ) × IsBehindAt limits (everywhere limits.keep env point) pieces point path item) ⊎ (IsPast limits (everywhere limits.keep env point) point path × (¬ Covers pieces path.state))
        → ((item : ℕ) × IsBehindAt limits (plan_of_trial limits.keep plan checkpoint.state.machine.taken env point) pieces point path item) ⊎ (IsPast limits (plan_of_trial limits.keep plan checkpoint.state.machine.taken env point) point path × (¬ Covers pieces path.state))
    of_either (inl behind) =
        inl (behind.0, record { early = behind.1.early; asks = asks_under_all limits (everywhere limits.keep env point) (plan_of_trial limits.keep plan checkpoint.state.machine.taken env point) path behind.0 behind.1.asks; behind = behind.1.behind })
    of_either (inr past) = inr (way_past limits (everywhere limits.keep env point) (plan_of_trial limits.keep plan checkpoint.state.machine.taken env point) point path past.0, past.1)

pub trial_comes : TrialComes
trial_comes limits items image plan env point checkpoint path pieces result some at_start trial =
    let low : path.state.machine.taken < point + limits.keep = omega (arith, some, in_time limits items (everywhere limits.keep env point) checkpoint pieces point path result trial.comes) in
    record {
      from = trial_serves limits items image plan env point checkpoint path at_start low trial.from;
      comes = comes_so limits items image plan env point checkpoint path pieces result some at_start low trial.from trial.comes;
    }
