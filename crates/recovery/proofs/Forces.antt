-- The environment that is in force.
use Rattle.recovery.proofs.Terms.{Bool, List, Some, [], ap, arith, cond, eqb, inl, inr, ltb, refl, subst, ℕ, ◌+◌, ◌<◌, ◌≡◌, ◌≤◌, ◌⊎◌, cond_both, eqb-false, le-ltb, slice_get, Item, Entry, Env, Log, Ledger, Image, Cause, AsksFor, FailsBy, Limits, Override, Path, Served, env_at, CpuState, items_in, Rules, asks_under_all, chained_at, past_request, start_taken, apart_asks_fails, IsCheckpoint, plan_of_trial, IsInForce, KeepsRing}
use Rattle.recovery.proofs.Starting.{checkpoint_at}

-- Without a plan it is the base.
pub in_force_none : (base : Env) (taken : ℕ) → IsInForce base [] taken base 0
in_force_none base taken = record { in_force = λ count later. cond_both (ltb count 0) base base (λ e. base ≡ e) (λ _. refl) (λ _. refl) }

-- It stays in force as more items are taken.
pub in_force_later : (base : Env) (plan : List Override) (taken later : ℕ) (env : Env) (until : ℕ) → taken ≤ later → IsInForce base plan taken env until → IsInForce base plan later env until
in_force_later base plan taken later env until more is = record { in_force = λ count from. is.in_force count (omega (arith, more, from)) }

behind : (checkpoint point count : ℕ) → (checkpoint ≡ 0) ⊎ (checkpoint < point) → point ≤ count → cond (eqb checkpoint 0) 0 (checkpoint + 1) ≤ count
behind checkpoint point count from later = cond_both (eqb checkpoint 0) 0 (checkpoint + 1) (λ n. n ≤ count) (λ _. omega arith) (λ some. of_past from (eqb-false checkpoint 0 some))
  where
    of_past : (checkpoint ≡ 0) ⊎ (checkpoint < point) → (checkpoint ≡ 0 → ⊥) → checkpoint + 1 ≤ count
    of_past (inl none) some = absurd (some none)
    of_past (inr past) some = omega (arith, past, later)

-- From the point of an adopted trial on it is that of the trial.
pub in_force_adopted : (base : Env) (keep : ℕ) (plan : List Override) (checkpoint : ℕ) (env : Env) (point : ℕ) → (checkpoint ≡ 0) ⊎ (checkpoint < point) → IsInForce base (plan_of_trial keep plan checkpoint env point) point env (point + keep)
in_force_adopted base keep plan checkpoint env point from = record {
  in_force = λ count later.
      ap (λ (b : Bool). cond b (env_at base plan count) (cond (ltb count (point + keep)) env base)) (le-ltb count (cond (eqb checkpoint 0) 0 (checkpoint + 1)) (behind checkpoint point count from later));
}

-- A checkpoint from which a run fails is the start, or has taken fewer items.
pub before_point : (limits : Limits) (items : List Item) (image : Image) (plan : List Override) (checkpoint failed : Path) (cause : Cause) → IsCheckpoint limits image checkpoint → Served limits items plan checkpoint failed → FailsBy limits plan failed cause
    → (checkpoint.state.machine.taken ≡ 0) ⊎ (checkpoint.state.machine.taken < failed.state.machine.taken)
before_point limits items image plan checkpoint failed cause (inl is) served fails = inl (start_taken image checkpoint is)
before_point limits items image plan checkpoint failed cause (inr asks) served fails =
    elim (past_request limits items plan checkpoint failed asks.1 served) [
      | inl same ↦
          absurd (apart_asks_fails limits plan failed checkpoint.state.machine.taken cause
          (asks_under_all limits [] plan failed checkpoint.state.machine.taken (subst (λ (p : Path). AsksFor limits [] p checkpoint.state.machine.taken) same asks.1)) fails)
      | inr past ↦ inr past
    ]

-- So is each checkpoint of the ring of a survivor that fails, and the environment of a trial from there is in force once it is adopted.
pub in_force_from : {R : Type 0} {rules : Rules} {image : Image} {entries : List Entry} {plan : List Override} {failed : Path} {ring : List Path} {cpu : CpuState R} {log : Log} {ledger : Ledger} {cause : Cause} {checkpoint : Path} (env : Env) (index : ℕ)
    → KeepsRing rules image entries plan failed ring cpu log ledger → FailsBy rules.limits plan failed cause → slice_get ring index ≡ Some checkpoint
    → IsInForce rules.limits.base (plan_of_trial rules.limits.keep plan checkpoint.state.machine.taken env failed.state.machine.taken) failed.state.machine.taken env (failed.state.machine.taken + rules.limits.keep)
in_force_from {rules = rules} {image = image} {entries = entries} {plan = plan} {failed = failed} {ring = ring} {cause = cause} {checkpoint = checkpoint} env index k fails found =
    in_force_adopted rules.limits.base rules.limits.keep plan checkpoint.state.machine.taken env failed.state.machine.taken
    (before_point rules.limits (items_in rules.bounds entries) image plan checkpoint failed cause (checkpoint_at rules.limits image ring index checkpoint k.are found)
    (chained_at rules.limits (items_in rules.bounds entries) plan image failed ring index checkpoint k.chained found).0 fails)
