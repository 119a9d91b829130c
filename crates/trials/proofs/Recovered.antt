-- What a recovery fixes, and how a session goes on behind it.
use Rattle.session_notes.specs.declared.episode.Tried.TheVariants as tried
use Rattle.trials.proofs.Terms.{List, Some, ap, subst, sym, true, ℕ, ◌∙◌, ◌≡◌, slice_get, Item, Send, Image, Cause, Fails, start, start_machine, FailsBy, Limits, Override, Path, Served, origin, served_grows, timed_on, items_in, Survivor, AreBetween, Covers, passed_in, Tried, survives, ComesTo, IsUnharmed, Trial, AreChained, IsRecovery, Recovery, adopted_by, point_of, OneRecovery, RecoveryAdopts, RecoveryGivesUp}
use Rattle.trials.proofs.Chained.{chained_at, chained_adopt, chained_from}
use Rattle.trials.proofs.Walked.{one_walk, none_survives, walk_adopts, walk_gives_up}

-- the sends of a run from the start, and of each checkpoint of a chain, were made with no more items than it took
pub timed_from : (limits : Limits) (items : List Item) (plan : List Override) (image : Image) (path : Path) → Served limits items plan (origin image) path → AreBetween 0 path.state.machine.taken path.state.sends
unfolding start start_machine
timed_from limits items plan image path served = timed_on (origin image).state path.state (served_grows limits items plan (origin image) path served) tt

pub ring_timed : (limits : Limits) (items : List Item) (plan : List Override) (image : Image) (later : Path) (ring : List Path) → AreChained limits items plan image later ring
    → (checkpoint : Path) (index : ℕ) → slice_get ring index ≡ Some checkpoint → AreBetween 0 checkpoint.state.machine.taken checkpoint.state.sends
ring_timed limits items plan image later ring chain checkpoint index here =
    timed_from limits items plan image checkpoint (chained_at limits items plan image later ring index checkpoint chain here).1

-- a run fails by one cause
one_cause : (limits : Limits) (plan : List Override) (path : Path) (cause other : Cause) → FailsBy limits plan path cause → FailsBy limits plan path other → cause ≡ other
one_cause limits plan path cause other one two =
    let same : Fails cause ≡ Fails other = sym one.fails ∙ two.fails in cc

abbrev with_trials : Survivor → List Path → Cause → List Trial → Recovery
with_trials survivor ring cause trials = record { survivor = survivor; cause = cause; ring = ring; trials = trials }

pub one_recovery : OneRecovery
one_recovery rules image entries recovery other survivor ring one two =
    let moved = subst (λ (s : Survivor). IsRecovery rules image entries (with_trials s other.ring other.cause other.trials)) (sym survivor) two in
    let as_one = subst (λ (r : List Path). IsRecovery rules image entries (with_trials recovery.survivor r other.cause other.trials)) (sym ring) moved in
    let cause = one_cause rules.limits recovery.survivor.plan recovery.survivor.now recovery.cause other.cause one.fails as_one.fails in
    let trials =
    one_walk rules.limits (items_in rules.bounds entries) recovery.survivor.plan (passed_in rules.bounds entries) (point_of recovery) recovery.ring recovery.trials other.trials
    (ring_timed rules.limits (items_in rules.bounds entries) recovery.survivor.plan image recovery.survivor.now recovery.ring one.chained) one.walks as_one.walks in
    ap (λ (c : Cause). with_trials recovery.survivor recovery.ring c recovery.trials) cause
    ∙ ap (λ (ts : List Trial). with_trials recovery.survivor recovery.ring other.cause ts) trials
    ∙ ap (λ (s : Survivor). with_trials s recovery.ring other.cause other.trials) survivor
    ∙ ap (λ (r : List Path). with_trials other.survivor r other.cause other.trials) ring

-- a trial that survives is unharmed where it stands, and emits what was passed
pub survives_so : (limits : Limits) (items : List Item) (plan : List Override) (checkpoint : Path) (pieces : List Send) (point : ℕ) (path : Path) (result : Tried) → survives result ≡ true
    → ComesTo limits items plan checkpoint pieces point path result → IsUnharmed pieces point path.state × Covers pieces path.state
survives_so limits items plan checkpoint pieces point path tried.Asks is comes = (comes.0, comes.2)
survives_so limits items plan checkpoint pieces point path (tried.Exits code) is comes = (comes.0, comes.2)
survives_so limits items plan checkpoint pieces point path (tried.Failed cause) is comes = absurd (cc)
survives_so limits items plan checkpoint pieces point path tried.Contradicts is comes = absurd (cc)
survives_so limits items plan checkpoint pieces point path tried.Behind is comes = absurd (cc)

pub recovery_adopts : RecoveryAdopts
recovery_adopts rules image entries recovery trial was is =
    let items : List Item = items_in rules.bounds entries in
    let pieces : List Send = passed_in rules.bounds entries in
    let point : ℕ = point_of recovery in
    let next : Survivor = adopted_by rules recovery trial in
    let it = walk_adopts rules.limits items recovery.survivor.plan pieces point recovery.ring recovery.trials trial was.walks is in
    let chain =
    chained_adopt rules.limits items recovery.survivor.plan image trial.chance.env point recovery.survivor.now trial.path recovery.ring it.index trial.chance.checkpoint was.chained was.checkpoints it.checkpoint it.right.from in
    let so = survives_so rules.limits items next.plan trial.chance.checkpoint pieces point trial.path trial.result it.survives_it it.right.comes in
    record {
      ran = chained_from rules.limits items next.plan image trial.path _ chain.0;
      early = so.0.early;
      covers = so.1;
      feasible = so.0.feasible;
      index = it.index;
      checkpoint = it.checkpoint;
      chained = chain.0;
      checkpoints = chain.1;
    }

pub recovery_gives_up : RecoveryGivesUp
recovery_gives_up rules image entries recovery trial index was none here right =
    let items : List Item = items_in rules.bounds entries in
    let pieces : List Send = passed_in rules.bounds entries in
    let plan : List Override = recovery.survivor.plan in
    let ended = walk_gives_up rules.limits items plan pieces (point_of recovery) recovery.ring recovery.trials was.walks none in
    none_survives rules.limits items plan pieces (point_of recovery) recovery.ring recovery.trials (ring_timed rules.limits items plan image recovery.survivor.now recovery.ring was.chained) was.walks ended.1 trial index here right
