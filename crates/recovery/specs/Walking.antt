-- A walk on its way over the table of trials.
use Rattle.std.specs.Prelude.{◌≡◌, ℕ, ◌+◌, ◌-◌, List, [], ◌∷◌, ◌++◌, map, take, false, Option, None, Some, IfSome, slice_get, Result, Ok, Err}
use Rattle.recovery.specs.Terms.{AllocError, Choice, Env, Ledger, discarded, Path, CpuState, KeepsReplies, Episode, Try, survives, Chance, IsRight, Trial, WalksOver, chances_at, environments, survivor_in, table, try_of}
use Rattle.recovery.specs.declared.walking.Adopted.{Adopted}
use Rattle.recovery.specs.declared.walking.Walked.{Walked}
use Rattle.recovery.specs.declared.walking.FailureSite.{FailureSite}
use Rattle.recovery.specs.Sessions.{Failure, items_of, pieces_of}
use Rattle.recovery.specs.Trying.{KeepsLedger, steps_of, IsAdopted, HasWalked}
use Rattle.recovery.specs.Unfinished.{Unfinished, steps_unfinished, BeginsOver}

-- a chance was tried, with this trial, and noted
pub record IsMade (failure : Failure) (point : ℕ) (chance : Chance) (trial : Trial) (old new : List Try) (before after : ℕ) : Type 0 where
  pub chance_is : trial.chance ≡ chance
  pub right : IsRight failure.rules.limits (items_of failure) failure.plan (pieces_of failure) point trial
  pub tries_are : new ≡ old ++ try_of trial ∷ []
  pub counted : after ≡ before + (trial.path.steps - trial.chance.checkpoint.steps)

-- chances were tried, and no trial survived
abbrev pub AreTried : Failure → ℕ → List Chance → List Trial → Type 0
AreTried failure point [] [] = Unit {0}
AreTried failure point [] (trial ∷ trials) = ⊥
AreTried failure point (chance ∷ chances) [] = ⊥
AreTried failure point (chance ∷ chances) (trial ∷ trials) =
    (trial.chance ≡ chance) × IsRight failure.rules.limits (items_of failure) failure.plan (pieces_of failure) point trial × (survives trial.result ≡ false) × AreTried failure point chances trials

-- one was tried, and failed
pub record FailedOne (failure : Failure) (point : ℕ) (chance : Chance) (old new : List Try) (before after : ℕ) : Type 0 where
  pub trial : Trial
  pub made : IsMade failure point chance trial old new before after
  pub failed : survives trial.result ≡ false

-- some were tried, and failed
pub record FailedSome (failure : Failure) (point : ℕ) (chances : List Chance) (old new : List Try) (before after : ℕ) : Type 0 where
  pub trials : List Trial
  pub tried : AreTried failure point chances trials
  pub tries_are : new ≡ old ++ map try_of trials
  pub counted : after ≡ before + steps_of trials

-- Memory broke off a walk over these chances: none of the trials so far survived, and so many instructions were counted as they did, and as the one did
-- that was begun last.
pub record HasBegun (failure : Failure) (point : ℕ) (chances : List Chance) (before after : ℕ) : Type 0 where
  pub unfinished : Unfinished
  pub begins : BeginsOver failure.rules.limits (items_of failure) failure.plan (pieces_of failure) point chances unfinished.trials unfinished.last
  pub counted : after ≡ before + steps_unfinished unfinished

-- the passed bytes of a ledger are as they were, and so is where they begin
pub record KeepsPassed (old new : Ledger) : Type 0 where
  pub first : new.first ≡ old.first
  pub connections : new.connections ≡ old.connections

-- a ledger without a trial, in which the passed bytes are as they were
pub record HasSameBytes (old new : Ledger) : Type 0 where
  pub no_trial : new.trial ≡ None
  pub first : new.first ≡ old.first
  pub connections : new.connections ≡ old.connections

-- a walk over a failure's table found that this trial survives, the first one that does
pub record IsFound (failure : Failure) (point : ℕ) (trial : Trial) : Type 0 where
  pub trials : List Trial
  pub walks : WalksOver failure.rules.limits (items_of failure) failure.plan (pieces_of failure) point (table failure.ring) trials
  pub found : survivor_in trials ≡ Some trial

-- the run that a session has behind a failure: the survivor's that failed, or that of a trial
abbrev pub run_of : Failure → Option Trial → Path
run_of failure None = failure.failed
run_of failure (Some trial) = trial.path

-- A ledger has the sends of one run, all of them and no others: those of the survivor that failed, or those of the trial that a walk found.
pub record IsOfOneRun (failure : Failure) (point : ℕ) (ledger : Ledger) : Type 0 where
  pub trial : Option Trial
  pub found : IfSome trial (IsFound failure point)
  pub replies : KeepsReplies failure.rules.bounds failure.entries None (run_of failure trial).state.sends ledger

-- an episode tells of a failure, and of the walk
pub record IsEpisode (site : FailureSite) (episode : Episode) : Type 0 where
  pub point_is : episode.point ≡ site.point
  pub cause_is : episode.cause ≡ site.cause
  pub pc_is : episode.pc ≡ site.pc

-- by the answer of a walk
abbrev pub StaysBy : {X : Type 0} → Ledger → Ledger → Result X AllocError → Type 0
StaysBy old new (Ok done) = HasSameBytes old new
StaysBy old new (Err fault) = KeepsLedger old new

-- by the answer of who looks at a failure
abbrev pub LeavesNoTrial : Ledger → Ledger → Result (Unit {0}) AllocError → Type 0
LeavesNoTrial old new (Ok done) = new ≡ discarded old
LeavesNoTrial old new (Err fault) = KeepsLedger old new

-- by the answer of a part of it, that a trial was adopted or that none survived
abbrev pub LedgerBy : Ledger → Ledger → Result (Option Adopted) AllocError → Type 0
LedgerBy old new (Ok (Some adopted)) = HasSameBytes old new
LedgerBy old new (Ok None) = KeepsLedger old new
LedgerBy old new (Err fault) = KeepsLedger old new

module _ {R : Type 0} where
  -- one was tried, and adopted
  pub record AdoptedOne (failure : Failure) (point : ℕ) (chance : Chance) (adopted : Adopted) (cpu : CpuState R) (choices : List Choice) (ledger : Ledger) (old new : List Try) (before after : ℕ) : Type 0 where
    pub trial : Trial
    pub made : IsMade failure point chance trial old new before after
    pub adopts : IsAdopted failure trial adopted cpu choices ledger

  abbrev pub OneBy : Failure → ℕ → Chance → CpuState R → List Choice → Ledger → List Try → List Try → ℕ → ℕ → Result (Option Adopted) AllocError → Type 0
  OneBy failure point chance cpu choices ledger old new before after (Ok (Some adopted)) = AdoptedOne failure point chance adopted cpu choices ledger old new before after
  OneBy failure point chance cpu choices ledger old new before after (Ok None) = FailedOne failure point chance old new before after
  OneBy failure point chance cpu choices ledger old new before after (Err fault) = HasBegun failure point (chance ∷ []) before after

  -- some were tried, and the last of them was adopted: that of this environment
  pub record AdoptedLast (failure : Failure) (point : ℕ) (checkpoint : Path) (adopted : Adopted) (cpu : CpuState R) (choices : List Choice) (ledger : Ledger) (old new : List Try) (before after : ℕ) : Type 0 where
    pub trials : List Trial
    pub place : ℕ
    pub env : Env
    pub env_is : slice_get environments place ≡ Some env
    pub tried : AreTried failure point (chances_at checkpoint (take place environments)) trials
    pub last : Trial
    pub chance_is : last.chance ≡ record { checkpoint = checkpoint; env = env }
    pub right : IsRight failure.rules.limits (items_of failure) failure.plan (pieces_of failure) point last
    pub tries_are : new ≡ old ++ map try_of (trials ++ last ∷ [])
    pub counted : after ≡ before + steps_of (trials ++ last ∷ [])
    pub adopts : IsAdopted failure last adopted cpu choices ledger

  abbrev pub AllBy : Failure → ℕ → Path → CpuState R → List Choice → Ledger → List Try → List Try → ℕ → ℕ → Result (Option Adopted) AllocError → Type 0
  AllBy failure point checkpoint cpu choices ledger old new before after (Ok (Some adopted)) = AdoptedLast failure point checkpoint adopted cpu choices ledger old new before after
  AllBy failure point checkpoint cpu choices ledger old new before after (Ok None) = FailedSome failure point (chances_at checkpoint environments) old new before after
  AllBy failure point checkpoint cpu choices ledger old new before after (Err fault) = HasBegun failure point (chances_at checkpoint environments) before after

  -- by the answer of the loop over all checkpoints
  abbrev pub RingBy : Failure → ℕ → CpuState R → List Choice → Ledger → Ledger → ℕ → ℕ → List Try → Result (Option Adopted) AllocError → Type 0
  RingBy failure point cpu choices old new before after tries (Ok adopted) = HasWalked failure point cpu choices old new before after tries adopted
  RingBy failure point cpu choices old new before after tries (Err fault) = HasBegun failure point (table failure.ring) before after

  -- and by that of a walk
  abbrev pub WalksBy : Failure → ℕ → CpuState R → List Choice → Ledger → Ledger → ℕ → ℕ → Result Walked AllocError → Type 0
  WalksBy failure point cpu choices old new before after (Ok walked) = HasWalked failure point cpu choices old new before after walked.episode.tries walked.adopted
  WalksBy failure point cpu choices old new before after (Err fault) = HasBegun failure point (table failure.ring) before after
