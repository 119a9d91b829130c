-- What a recovery makes of a session whose program failed.
use Rattle.std.specs.Prelude.{◌≡◌, ◌⊎◌, ℕ, ◌+◌, ◌-◌, ◌<◌, ◌≤◌, Bool, List, [], ◌++◌, length, take, drop, Option, None, Some, Result, Ok, Err, slice_get}
use Rattle.recovery.specs.Terms.{AllocError, Choice, Heap, without_newer, discarded, Cause, AsksFor, FailsBy, Path, CpuState, standing_of, KeepsReplies, Try, IsRecovery, Recovery, adopted_by, episode_of, Trial, survivor_in, table}
use Rattle.recovery.specs.Sessions.{CanGoOn, Failure, Held, IsUnder, FailedAt}
use Rattle.recovery.specs.Trying.{KeepsSaved, steps_of}
use Rattle.recovery.specs.Walking.{HasSameBytes, KeepsPassed, HasBegun}
use Rattle.recovery.specs.Watching.{TellsTable}
use Rattle.recovery.specs.declared.walking.Adopted.{Adopted}
use Rattle.recovery.specs.declared.walking.FailureSite.{FailureSite}
use Rattle.recovery.specs.declared.recovering.Recovered.{Recovered}
use Rattle.recovery.specs.Rings.{KeepsRing, AreBehind, IsInForce}

-- a failure, its walk and the survivor that failed, as a recovery
abbrev pub recovery_of : Failure → Path → Cause → List Trial → Recovery
recovery_of failure begun cause trials = record { survivor = record { plan = failure.plan; begun = begun; now = failure.failed }; cause = cause; ring = failure.ring; trials = trials }

module _ {R : Type 0} where
  -- A session whose survivor failed so: its checkpoints are those of the failure. Of the survivor's answers of the allocator it has those behind the
  -- first ones, which are recorded, and all of which were used before the oldest checkpoint.
  pub record HasToRecover (site : FailureSite) (failure : Failure) (held : Held R) : Type 0 where
    pub failed : FailedAt site.point failure held.cpu held.log held.replies
    pub ring : KeepsRing failure.rules failure.image failure.entries failure.plan failure.failed failure.ring held.cpu held.log held.replies
    pub chose : held.choices ≡ drop held.recorded failure.failed.choices
    pub early : AreBehind held.recorded failure.ring
    pub fails : FailsBy failure.rules.limits failure.plan failure.failed site.cause
    pub pc_is : failure.failed.state.machine.pc ≡ site.pc

  pub record CanRecover (budget : ℕ) (permits : Heap → ℕ → ℕ → Bool) (site : FailureSite) (held : Held R) : Type 0 where
    pub failure : Failure
    pub under : IsUnder failure budget permits
    pub has : HasToRecover site failure held

  -- The session goes on as a trial: the guest stands there, the checkpoints are those up to the one at this index, its own, and what is known of
  -- the survivor is known of it. It stands at its request for the item that the run that failed never took, or has ended itself.
  pub record HasAdoptedRun (failure : Failure) (recovery : Recovery) (trial : Trial) (adopted : Adopted) (held : Held R) : Type 0 where
    pub env_is : adopted.env ≡ trial.chance.env
    pub code_is : adopted.code ≡ trial.path.state.ended
    pub asks : trial.path.state.ended ≡ None → AsksFor failure.rules.limits [] trial.path failure.failed.state.machine.taken
    pub stands : held.cpu.slots.live ≡ standing_of trial.path
    pub chose : held.choices ≡ drop held.recorded trial.path.choices
    pub low : held.recorded ≤ length trial.path.choices
    pub front : take held.recorded trial.path.choices ≡ take held.recorded failure.failed.choices
    pub from : slice_get failure.ring adopted.index ≡ Some trial.chance.checkpoint
    pub ring : KeepsRing failure.rules failure.image failure.entries (adopted_by failure.rules recovery trial).plan trial.path (drop adopted.index failure.ring) held.cpu held.log held.replies
    pub in_force : IsInForce failure.rules.limits.base (adopted_by failure.rules recovery trial).plan failure.failed.state.machine.taken adopted.env (failure.failed.state.machine.taken + failure.rules.limits.keep)
    pub replies : KeepsReplies failure.rules.bounds failure.entries None trial.path.state.sends held.replies
    pub goes : CanGoOn failure.rules failure.entries trial.path
    pub enough : trial.path.steps ≤ failure.failed.steps + steps_of recovery.trials

  -- by what was adopted: a trial that survived; or none survived, and all but the guest is as it was
  abbrev pub LeavesRun : Failure → Recovery → Held R → Held R → Option Adopted → Type 0
  LeavesRun failure recovery old new None = (survivor_in recovery.trials ≡ None) × (new ≡ record old { cpu = new.cpu; replies = discarded old.replies })
  LeavesRun failure recovery old new (Some adopted) = (trial : Trial) × (survivor_in recovery.trials ≡ Some trial) × HasAdoptedRun failure recovery trial adopted new

  -- There is a recovery of the survivor that failed, which the episode reports.
  pub record HasRecovery (failure : Failure) (begun : Path) (cause : Cause) (recovered : Recovered) (old new : Held R) (before after : ℕ) : Type 0 where
    pub trials : List Trial
    pub episode_is : recovered.episode ≡ episode_of (recovery_of failure begun cause trials)
    pub recovers : IsRecovery failure.rules failure.image failure.entries (recovery_of failure begun cause trials)
    pub counted : after ≡ before + steps_of trials
    pub leaves : LeavesRun failure (recovery_of failure begun cause trials) old new recovered.adopted

  -- by the answer; after want of memory a walk over the checkpoints was begun, or ended with a trial that wasn't adopted
  abbrev pub RecoversBy : Failure → Path → Cause → Held R → Held R → ℕ → ℕ → Result Recovered AllocError → Type 0
  RecoversBy failure begun cause old new before after (Ok recovered) = HasRecovery failure begun cause recovered old new before after
  RecoversBy failure begun cause old new before after (Err fault) = HasBegun failure failure.failed.state.machine.taken (table failure.ring) before after

  -- The newer checkpoints were dropped, and the answers of the allocator are those of the guest behind the recorded ones: these are its last ones.
  -- All else is as it was.
  pub record Adopts (index : ℕ) (own : List Choice) (old new : Held R) : Type 0 where
    pub slots : new.cpu.slots ≡ without_newer index old.cpu.slots
    pub rule : new.cpu.rule ≡ old.cpu.rule
    pub window : new.cpu.base ≡ old.cpu.base
    pub flags : new.cpu.written ≡ old.cpu.written
    pub choices_are : new.choices ≡ take (old.cpu.slots.live.guest.machine.allocations - length own - old.recorded) old.choices ++ own

  -- or memory ran out, and nothing changed
  abbrev pub AdoptsBy : ℕ → List Choice → Held R → Held R → Result (Unit {0}) AllocError → Type 0
  AdoptsBy index own old new (Ok done) = Adopts index own old new
  AdoptsBy index own old new (Err fault) = new ≡ old

  -- Of the checkpoints all stand behind a walk of which nothing was adopted; and behind an adoption those up to its own.
  abbrev pub KeepsSlots : Option Adopted → CpuState R → CpuState R → Type 0
  KeepsSlots None old new = new.slots.saved ≡ old.slots.saved
  KeepsSlots (Some adopted) old new = (adopted.index < length old.slots.saved) × (new.slots.saved ≡ drop adopted.index old.slots.saved)

  -- what a recovery leaves whatever the failure was: checkpoints by what was adopted, and what was passed
  pub record LeavesSession (adopted : Option Adopted) (old new : Held R) : Type 0 where
    pub slots : KeepsSlots adopted old.cpu new.cpu
    pub bytes : HasSameBytes old.replies new.replies

  -- By the answer. After want of memory the checkpoints, the answers of the allocator and what was passed are as they were.
  abbrev pub LeavesRest : Held R → Held R → Result Recovered AllocError → Type 0
  LeavesRest old new (Ok recovered) = LeavesSession recovered.adopted old new
  LeavesRest old new (Err fault) = (new.choices ≡ old.choices) × KeepsSaved old.cpu new.cpu × KeepsPassed old.replies new.replies

-- by the answer: a watch that tells its tables tells one more, that of the failure; after want of memory it may, or tells what it told
abbrev pub WatchedBy : {X : Type 0} → Failure → ℕ → Option (List (List Try)) → Option (List (List Try)) → Result X AllocError → Type 0
WatchedBy failure point old new (Ok done) = TellsTable failure point old new
WatchedBy failure point old new (Err fault) = (new ≡ old) ⊎ TellsTable failure point old new
