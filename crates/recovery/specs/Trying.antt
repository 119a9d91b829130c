-- What a trial, and a walk over the table, make of a session whose program failed.
use Rattle.std.specs.Prelude.{◌≡◌, ℕ, ◌+◌, ◌-◌, ◌≤◌, List, ◌++◌, map, sum, drop, replicate, false, Option, None, Some, IsSomeAnd, MatchBool, Result, Ok, Err}
use Rattle.session_notes.specs.declared.episode.Tried.TheVariants as tried
use Rattle.recovery.specs.Terms.{AllocError, Choice, Env, Checkpoint, Ledger, discarded, Path, CpuState, standing_of, Standing, Writes, KeepsReplies, Tried, Try, survives, Trial, WalksOver, chance_at, survivor_in, table, try_of, IsTrial, plan_of_trial}
use Rattle.recovery.specs.Sessions.{CanGoOn, Failure, items_of, pieces_of}
use Rattle.recovery.specs.Going.{HasStopped}
use Rattle.recovery.specs.declared.walking.Adopted.{Adopted}

-- no call of a walk changes anything of a ledger but its trial
abbrev pub KeepsLedger : Ledger → Ledger → Type 0
KeepsLedger old new = discarded new ≡ discarded old

-- how many instructions trials did, each from its checkpoint
abbrev pub steps_of : List Trial → ℕ
steps_of trials = sum (map (λ trial. trial.path.steps - trial.chance.checkpoint.steps) trials)

-- what is adopted of a trial from the checkpoint at an index, in an environment, that had this result: nothing unless it survived
abbrev pub adopted_of : ℕ → Env → Tried → Option Adopted
adopted_of index env tried.Asks = Some (record { index = index; env = env; code = None })
adopted_of index env (tried.Exits code) = Some (record { index = index; env = env; code = Some code })
adopted_of index env _ = None

module _ {R : Type 0} where
  -- nor what is saved of a guest, nor its rule
  pub record KeepsSaved (old new : CpuState R) : Type 0 where
    pub rule : new.rule ≡ old.rule
    pub base : new.base ≡ old.base
    pub saved : new.slots.saved ≡ old.slots.saved
    pub count : new.slots.count ≡ old.slots.count
    pub pages : new.slots.pages ≡ old.slots.pages
    pub frames : new.slots.frames ≡ old.slots.frames

  -- and its live state stands on the same checkpoint
  pub record KeepsBase (old new : CpuState R) : Type 0 where
    pub saved : KeepsSaved old new
    pub newer : new.slots.newer ≡ old.slots.newer

  -- the guest stands on the checkpoint of an index
  abbrev pub StandsOn : CpuState R → ℕ → Type 0
  StandsOn cpu index = cpu.slots.newer ≡ index

  -- A trial from a checkpoint came to this result: the guest stands where it has come, has marked the pages that it wrote since the checkpoint,
  -- and these are its answers of the allocator since then. Where it survives, the ledger has its sends, and else it has no trial.
  pub record HasTried (failure : Failure) (point : ℕ) (checkpoint : Path) (env : Env) (cpu : CpuState R) (choices : List Choice) (ledger : Ledger) (result : Tried) : Type 0 where
    pub path : Path
    pub trial : IsTrial failure.rules.limits (items_of failure) (plan_of_trial failure.rules.limits.keep failure.plan checkpoint.state.machine.taken env point) checkpoint (pieces_of failure) point path result
    pub stands : cpu.slots.live ≡ standing_of path
    pub wrote : Writes failure.rules.limits (items_of failure) cpu.base checkpoint (replicate cpu.slots.pages false) path cpu.written
    pub chose : path.choices ≡ checkpoint.choices ++ choices
    pub goes : CanGoOn failure.rules failure.entries path
    pub sent : MatchBool (survives result) (ledger.trial ≡ Some (drop ledger.first path.state.sends)) (ledger.trial ≡ None)

  -- the instructions of a trial from a saved checkpoint were counted
  pub record CountsTrial (saved : Option (Checkpoint Standing)) (cpu : CpuState R) (before after : ℕ) : Type 0 where
    pub counted : IsSomeAnd saved (λ one. after + one.state.steps ≡ before + cpu.slots.live.steps)
    pub least : before ≤ after

  -- by the answer; after want of memory it had come this far
  abbrev pub TriesBy : Failure → ℕ → Path → Env → CpuState R → List Choice → Ledger → Result Tried AllocError → Type 0
  TriesBy failure point checkpoint env cpu choices ledger (Ok result) = HasTried failure point checkpoint env cpu choices ledger result
  TriesBy failure point checkpoint env cpu choices ledger (Err fault) = HasStopped failure point checkpoint env cpu

  -- A trial is adopted, as the survivor: that of the chance at this index and in this environment, which ended itself with this code, if it did. The
  -- guest stands where it has come, on its checkpoint, with the pages marked that it wrote since then; these are its answers of the allocator since then; and
  -- the ledger has its sends.
  pub record IsAdopted (failure : Failure) (trial : Trial) (adopted : Adopted) (cpu : CpuState R) (choices : List Choice) (ledger : Ledger) : Type 0 where
    pub chance_is : chance_at failure.ring adopted.index adopted.env ≡ Some trial.chance
    pub adopted_is : adopted_of adopted.index adopted.env trial.result ≡ Some adopted
    pub stands_on : StandsOn cpu adopted.index
    pub stands : cpu.slots.live ≡ standing_of trial.path
    pub wrote : Writes failure.rules.limits (items_of failure) cpu.base trial.chance.checkpoint (replicate cpu.slots.pages false) trial.path cpu.written
    pub chose : trial.path.choices ≡ trial.chance.checkpoint.choices ++ choices
    pub goes : CanGoOn failure.rules failure.entries trial.path
    pub replies : KeepsReplies failure.rules.bounds failure.entries None trial.path.state.sends ledger

  -- what is left behind a walk: of its trials the one that survived is adopted; or none survived, and the ledger is as it was
  abbrev pub LeavesBy : Failure → List Trial → CpuState R → List Choice → Ledger → Ledger → Option Adopted → Type 0
  LeavesBy failure trials cpu choices old new None = (survivor_in trials ≡ None) × (new ≡ discarded old)
  LeavesBy failure trials cpu choices old new (Some adopted) = (trial : Trial) × (survivor_in trials ≡ Some trial) × IsAdopted failure trial adopted cpu choices new

  -- A walk over the whole table of a ring, or up to the first trial that survives.
  pub record HasWalked (failure : Failure) (point : ℕ) (cpu : CpuState R) (choices : List Choice) (old new : Ledger) (before now : ℕ) (tries : List Try) (adopted : Option Adopted) : Type 0 where
    pub trials : List Trial
    pub tries_are : tries ≡ map try_of trials
    pub walks : WalksOver failure.rules.limits (items_of failure) failure.plan (pieces_of failure) point (table failure.ring) trials
    pub leaves : LeavesBy failure trials cpu choices old new adopted
    pub counted : now ≡ before + steps_of trials
