-- Checkpoints as a chain of runs.
use Rattle.trials.proofs.Terms.{Bool, List, Some, [], ap, arith, cond, drop, inl, inr, refl, subst, suc, sym, zero, ℕ, ◌+◌, ◌<◌, ◌∙◌, ◌∷◌, ◌≡◌, ◌≤◌, ne_eqb, none-some, same_Some, slice_get, Item, Env, Image, Limits, Override, Path, Served, env_at, origin, served_next, served_on, served_same, plan_of_trial, AreChained, AreCheckpoints, IsCheckpoint, ChainedAdopt, ChainedAt, ChainedDrop}
use Rattle.trials.proofs.Going.{taken_later, nothing_before, served_as}
use Rattle.trials.proofs.Planned.{env_before}

-- what goes on from a chain goes on from the start
pub chained_from : (limits : Limits) (items : List Item) (plan : List Override) (image : Image) (later : Path) (ring : List Path) → AreChained limits items plan image later ring → Served limits items plan (origin image) later
chained_from limits items plan image later [] chain = chain
chained_from limits items plan image later (newest ∷ older) chain = served_on limits items plan (origin image) newest later (chained_from limits items plan image newest older chain.1) chain.0

pub chained_at : ChainedAt
chained_at limits items plan image later [] index checkpoint chain here = absurd (none-some checkpoint here)
chained_at limits items plan image later (newest ∷ older) zero checkpoint chain here =
    subst (λ (p : Path). Served limits items plan p later × Served limits items plan (origin image) p) (same_Some newest checkpoint here) (chain.0, chained_from limits items plan image newest older chain.1)
chained_at limits items plan image later (newest ∷ older) (suc index) checkpoint chain here =
    let rest = chained_at limits items plan image newest older index checkpoint chain.1 here in
    (served_on limits items plan checkpoint newest later rest.0 chain.0, rest.1)

pub chained_drop : ChainedDrop
chained_drop limits items plan image later oldest [] chain = served_on limits items plan (origin image) oldest later chain.1 chain.0
chained_drop limits items plan image later oldest (newest ∷ older) chain = (chain.0, chained_drop limits items plan image newest oldest older chain.1)

-- a checkpoint of a ring, and those before it
chained_behind : (limits : Limits) (items : List Item) (plan : List Override) (image : Image) (later : Path) (ring : List Path) (index : ℕ) (checkpoint : Path) → AreChained limits items plan image later ring → AreCheckpoints limits image ring
    → slice_get ring index ≡ Some checkpoint → (older : List Path) × (drop index ring ≡ checkpoint ∷ older) × AreChained limits items plan image checkpoint older × IsCheckpoint limits image checkpoint × AreCheckpoints limits image older
chained_behind limits items plan image later [] index checkpoint chain are here = absurd (none-some checkpoint here)
chained_behind limits items plan image later (newest ∷ older) zero checkpoint chain are here =
    let same = same_Some newest checkpoint here in
    (older, ap (λ (p : Path). p ∷ older) same, subst (λ (p : Path). AreChained limits items plan image p older) same chain.1, subst (IsCheckpoint limits image) same are.0, are.1)
chained_behind limits items plan image later (newest ∷ older) (suc index) checkpoint chain are here = chained_behind limits items plan image newest older index checkpoint chain.1 are.1 here

-- under plans that agree up to what was taken a run is the same
served_alike : (limits : Limits) (items : List Item) (plan other : List Override) (first second : Path) (bound : ℕ) → ((count : ℕ) → count ≤ bound → env_at limits.base plan count ≡ env_at limits.base other count)
    → second.state.machine.taken ≤ bound → Served limits items plan first second → Served limits items other first second
served_alike limits items plan other first second bound alike low served =
    served_as limits items plan other first second bound (λ now to before early goes. ap (λ (env : Env). served_next limits items env now) (sym (alike now.state.machine.taken early)) ∙ goes) low served

chained_alike : (limits : Limits) (items : List Item) (plan other : List Override) (image : Image) (later : Path) (ring : List Path) (bound : ℕ) → ((count : ℕ) → count ≤ bound → env_at limits.base plan count ≡ env_at limits.base other count)
    → later.state.machine.taken ≤ bound → AreChained limits items plan image later ring → AreChained limits items other image later ring
chained_alike limits items plan other image later [] bound alike low chain = served_alike limits items plan other (origin image) later bound alike low chain
chained_alike limits items plan other image later (newest ∷ older) bound alike low chain = (
  served_alike limits items plan other newest later bound alike low chain.0,
  chained_alike limits items plan other image newest older bound alike (omega (arith, low, taken_later limits items plan newest later chain.0)) chain.1,
)

served_start : (limits : Limits) (items : List Item) (other : List Override) (image : Image) (first second : Path) → first ≡ origin image → second ≡ origin image → Served limits items other first second
served_start limits items other image first second one is = subst (λ (p : Path). Served limits items other first p) (one ∙ sym is) (served_same limits items other first)

chained_start : (limits : Limits) (items : List Item) (plan other : List Override) (image : Image) (later : Path) (ring : List Path) → later ≡ origin image → AreChained limits items plan image later ring → AreChained limits items other image later ring
chained_start limits items plan other image later [] is chain = served_start limits items other image (origin image) later refl is
chained_start limits items plan other image later (newest ∷ older) is chain =
    let first = nothing_before limits items plan newest later chain.0 (ap (λ (p : Path). p.steps) is) ∙ is in
    (served_start limits items other image newest later first is, chained_start limits items plan other image newest older first chain.1)

-- up to a checkpoint that isn't the start a trial's plan is the earlier one
up_to : (base : Env) (keep : ℕ) (plan : List Override) (checkpoint : ℕ) (env : Env) (point count : ℕ) → 0 < checkpoint → count ≤ checkpoint → env_at base plan count ≡ env_at base (plan_of_trial keep plan checkpoint env point) count
up_to base keep plan checkpoint env point count some low =
    sym (ap (λ (b : Bool). env_at base (record { low = cond b 0 (checkpoint + 1); until = point + keep; env = env } ∷ plan) count) (ne_eqb checkpoint 0 (λ none. omega (arith, none, some)))
    ∙ env_before base plan (checkpoint + 1) (point + keep) env count (omega (arith, low)))

chained_under : (limits : Limits) (items : List Item) (plan : List Override) (image : Image) (env : Env) (point : ℕ) (checkpoint : Path) (older : List Path) → IsCheckpoint limits image checkpoint → AreChained limits items plan image checkpoint older
    → AreChained limits items (plan_of_trial limits.keep plan checkpoint.state.machine.taken env point) image checkpoint older
chained_under limits items plan image env point checkpoint older (inl is) chain = chained_start limits items plan (plan_of_trial limits.keep plan checkpoint.state.machine.taken env point) image checkpoint older is chain
chained_under limits items plan image env point checkpoint older (inr asks) chain =
    chained_alike limits items plan (plan_of_trial limits.keep plan checkpoint.state.machine.taken env point) image checkpoint older checkpoint.state.machine.taken
    (λ count low. up_to limits.base limits.keep plan checkpoint.state.machine.taken env point count asks.0 low) (omega arith) chain

pub chained_adopt : ChainedAdopt
chained_adopt limits items plan image env point later path ring index checkpoint chain are here served =
    let other : List Override = plan_of_trial limits.keep plan checkpoint.state.machine.taken env point in
    let parts = chained_behind limits items plan image later ring index checkpoint chain are here in
    subst (λ (rest : List Path). AreChained limits items other image path rest × AreCheckpoints limits image rest) (sym parts.1)
    ((served, chained_under limits items plan image env point checkpoint parts.0 parts.3 parts.2), (parts.3, parts.4))
