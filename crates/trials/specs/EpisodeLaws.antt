-- What holds of each recovery.
use Rattle.std.specs.Prelude.{◌≡◌, ℕ, ◌<◌, ◌≤◌, false, None, Some, List, [], ◌∷◌, ◌++◌, drop, slice_get}
use Rattle.trials.specs.Terms.{Item, Entry, Image, Path, Served, origin, items_in, Chapter, Rules, Survivor, entries_of, gone_on, Covers, IsFeasible, passed_in, first_survivor, survives}
use Rattle.trials.specs.Tables.{Trial, table, IsRight, survivor_in}
use Rattle.trials.specs.Chains.{AreCheckpoints, AreChained}
use Rattle.trials.specs.Episodes.{Recovery, point_of, IsRecovery, adopted_by, AreRecovered}

-- A recovery is fixed by the survivor that failed and its checkpoints: so is all that is reported of it.
abbrev pub OneRecovery : Type 0
OneRecovery =
    (rules : Rules) (image : Image) (entries : List Entry) (recovery other : Recovery) → recovery.survivor ≡ other.survivor → recovery.ring ≡ other.ring →
    IsRecovery rules image entries recovery → IsRecovery rules image entries other → recovery ≡ other

-- a trial that is adopted is a run from the start under its plan, which emits what was passed, and in time; it has the checkpoints up to its own
pub record GoesOnAs (rules : Rules) (image : Image) (entries : List Entry) (recovery : Recovery) (trial : Trial) : Type 0 where
  pub ran : Served rules.limits (items_in rules.bounds entries) (adopted_by rules recovery trial).plan (origin image) trial.path
  pub early : trial.path.state.machine.taken ≤ point_of recovery
  pub covers : Covers (passed_in rules.bounds entries) trial.path.state
  pub feasible : IsFeasible (passed_in rules.bounds entries) trial.path.state
  pub index : ℕ
  pub checkpoint : slice_get recovery.ring index ≡ Some trial.chance.checkpoint
  pub chained : AreChained rules.limits (items_in rules.bounds entries) (adopted_by rules recovery trial).plan image trial.path (drop index recovery.ring)
  pub checkpoints : AreCheckpoints rules.limits image (drop index recovery.ring)

-- where one survives the session can go on as it
abbrev pub RecoveryAdopts : Type 0
RecoveryAdopts =
    (rules : Rules) (image : Image) (entries : List Entry) (recovery : Recovery) (trial : Trial) → IsRecovery rules image entries recovery → survivor_in recovery.trials ≡ Some trial →
    GoesOnAs rules image entries recovery trial

-- where none does, no run that can be tried survives
abbrev pub RecoveryGivesUp : Type 0
RecoveryGivesUp =
    (rules : Rules) (image : Image) (entries : List Entry) (recovery : Recovery) (trial : Trial) (index : ℕ) → IsRecovery rules image entries recovery → survivor_in recovery.trials ≡ None →
    slice_get (table recovery.ring) index ≡ Some trial.chance → IsRight rules.limits (items_in rules.bounds entries) recovery.survivor.plan (passed_in rules.bounds entries) (point_of recovery) trial →
    survives trial.result ≡ false

-- Behind an adopted trial the next failure has taken more items: with more entries, which brought more items.
abbrev pub PointsRise : Type 0
PointsRise =
    (rules : Rules) (image : Image) (entries later : List Entry) (more : List Item) (recovery next : Recovery) (trial : Trial) → items_in rules.bounds later ≡ items_in rules.bounds entries ++ more → IsRecovery rules image entries recovery →
    survivor_in recovery.trials ≡ Some trial → next.survivor.plan ≡ (adopted_by rules recovery trial).plan → IsRecovery rules image later next → point_of recovery < point_of next

-- The survivors of a session: the first one, one that goes on, and behind a recovery the trial that survived.
abbrev pub RecoveredFirst : Type 0
RecoveredFirst = (rules : Rules) (image : Image) → AreRecovered rules image [] (first_survivor rules image) [] [] (first_survivor rules image)

abbrev pub RecoveredOn : Type 0
RecoveredOn =
    (rules : Rules) (image : Image) (before : List Entry) (first : Survivor) (chapters : List Chapter) (recoveries : List Recovery) (now : Survivor) (path : Path) →
    AreRecovered rules image before first chapters recoveries now → AreRecovered rules image before first chapters recoveries (gone_on now path)

abbrev pub RecoveredThen : Type 0
RecoveredThen =
    (rules : Rules) (image : Image) (before : List Entry) (first : Survivor) (chapters : List Chapter) (recoveries : List Recovery) (recovery : Recovery) (since : List Entry) (trial : Trial) →
    AreRecovered rules image before first chapters recoveries recovery.survivor → IsRecovery rules image ((before ++ entries_of chapters) ++ since) recovery → survivor_in recovery.trials ≡ Some trial →
    AreRecovered rules image before first (chapters ++ record { survivor = recovery.survivor; entries = since } ∷ []) (recoveries ++ recovery ∷ []) (adopted_by rules recovery trial)
