-- The episodes of a session's recovery: a failure, and what was tried after it.
use Rattle.std.specs.Prelude.{◌≡◌, ℕ, List, [], ◌∷◌, ◌++◌, map, MatchOption}
use Rattle.session_notes.specs.declared.episode.Episode.{Episode}
use Rattle.trials.specs.Terms.{Entry, Image, Cause, FailsBy, Path, items_in, Chapter, Rules, Survivor, passed_in}
use Rattle.trials.specs.Trials.{plan_of_trial}
use Rattle.trials.specs.Tables.{Trial, try_of, table, WalksOver, survivor_in}
use Rattle.trials.specs.Chains.{AreCheckpoints, AreChained}

-- A recovery as data: the survivor, which failed where it stands now, and by what; the checkpoints of its ring, from the newest to the oldest;
-- and the trials in their order.
pub record Recovery : Type 0 where
  pub survivor : Survivor
  pub cause : Cause
  pub ring : List Path
  pub trials : List Trial

-- the number of items that the run that failed had taken
abbrev pub point_of : Recovery → ℕ
point_of recovery = recovery.survivor.now.state.machine.taken

-- as it is reported
abbrev pub episode_of : Recovery → Episode
episode_of recovery = record {
  point = point_of recovery;
  cause = recovery.cause;
  pc = recovery.survivor.now.state.machine.pc;
  tries = map try_of recovery.trials;
}

-- What a recovery is, behind all entries that the journal had at the failure: the survivor failed by this cause, the checkpoints are runs on
-- its way, and the trials are a walk over their table.
pub record IsRecovery (rules : Rules) (image : Image) (entries : List Entry) (recovery : Recovery) : Type 0 where
  pub fails : FailsBy rules.limits recovery.survivor.plan recovery.survivor.now recovery.cause
  pub chained : AreChained rules.limits (items_in rules.bounds entries) recovery.survivor.plan image recovery.survivor.now recovery.ring
  pub checkpoints : AreCheckpoints rules.limits image recovery.ring
  pub walks : WalksOver rules.limits (items_in rules.bounds entries) recovery.survivor.plan (passed_in rules.bounds entries) (point_of recovery) (table recovery.ring) recovery.trials

-- the next survivor: it begins where a trial has come that survives, under the plan of that trial
abbrev pub adopted_by : Rules → Recovery → Trial → Survivor
adopted_by rules recovery trial = record {
  plan = plan_of_trial rules.limits.keep recovery.survivor.plan trial.chance.checkpoint.state.machine.taken trial.chance.env (point_of recovery);
  begun = trial.path;
  now = trial.path;
}

-- one survivor begins where another one does, under its plan
abbrev pub BeginsAs : Survivor → Survivor → Type 0
BeginsAs first later = (later.plan ≡ first.plan) × (later.begun ≡ first.begun)

-- The survivors of a session, behind some entries and from one that begins: each chapter's failed and was recovered, and the next one is the
-- trial that survived, up to the one that stands now.
abbrev pub AreRecovered : Rules → Image → List Entry → Survivor → List Chapter → List Recovery → Survivor → Type 0
AreRecovered rules image before first [] [] now = BeginsAs first now
AreRecovered rules image before first (chapter ∷ chapters) (recovery ∷ recoveries) now =
    BeginsAs first chapter.survivor × (recovery.survivor ≡ chapter.survivor) × IsRecovery rules image (before ++ chapter.entries) recovery
    × MatchOption (survivor_in recovery.trials) ⊥ (λ trial. AreRecovered rules image (before ++ chapter.entries) (adopted_by rules recovery trial) chapters recoveries now)
AreRecovered rules image before first _ _ now = ⊥
