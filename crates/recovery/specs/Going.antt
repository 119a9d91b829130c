-- A trial on its way: what its guest, its answers of the allocator and its ledger are, before each of its events.
use Rattle.std.specs.Prelude.{◌≡◌, ◌⊎◌, ℕ, ◌<◌, ◌≤◌, Bool, true, false, List, ◌++◌, length, take, drop, replicate, Option, None, Some, Result, Ok, Err}
use Rattle.reply_ledger.specs.Trials as ledgers
use Rattle.session_notes.specs.declared.episode.Tried.TheVariants as tried
use Rattle.recovery.specs.Terms.{AllocError, Send, sent_to, Choice, Heap, Env, Log, Ledger, passed_to, agree, trial_sends, with_trial_send, AsksFor, Path, Served, CpuState, standing_of, Writes, Tried, survives, IsCheckpoint, everywhere, IsTrial, IsUnharmed, plan_of_trial}
use Rattle.recovery.specs.Sessions.{CanGoOn, Failure, items_of, pieces_of, IsUnder, FailedAt}

-- what a trial that has come past the failure is, by whether it sent all that was passed
abbrev pub IsJudged : Type 0 → Tried → Tried → Type 0
IsJudged Covers survived result = (Covers × (result ≡ survived)) ⊎ ((¬ Covers) × (result ≡ tried.Behind))

-- whether some bytes are those that were passed behind what a trial sent
abbrev pub agrees_next : Ledger → Send → Bool
agrees_next ledger send = agree send.bytes (drop (length (sent_to send.conn (trial_sends ledger))) (passed_to ledger send.conn))

-- a send of a trial was noted, and it goes on or is contradicted
abbrev pub SendsBy : Ledger → Send → Ledger → Result (Option Tried) AllocError → Type 0
SendsBy old send new (Ok None) = (new ≡ with_trial_send old send) × (agrees_next old send ≡ true) × (ledgers.Agrees old → ledgers.Agrees new)
SendsBy old send new (Ok (Some result)) = (new ≡ with_trial_send old send) × (agrees_next old send ≡ false) × (result ≡ tried.Contradicts)
SendsBy old send new (Err fault) = new ≡ old

-- after an event with which a trial goes on, more instructions were done
abbrev pub IsLaterIf : Option Tried → ℕ → ℕ → Type 0
IsLaterIf None before now = before < now
IsLaterIf (Some result) before now = Unit {0}

abbrev pub IsLater : Result (Option Tried) AllocError → ℕ → ℕ → Type 0
IsLater (Ok found) before now = IsLaterIf found before now
IsLater (Err fault) before now = Unit {0}

module _ {R : Type 0} where
  -- A trial that goes on from a checkpoint stands here, unharmed. It is told as a run in its environment from the checkpoint on, which wrote the
  -- pages that the guest has marked; and the ledger has its sends.
  pub record IsTrying (failure : Failure) (point : ℕ) (checkpoint : Path) (env : Env) (cpu : CpuState R) (choices : List Choice) (log : Log) (ledger : Ledger) : Type 0 where
    pub failed : FailedAt point failure cpu log ledger
    pub from : IsCheckpoint failure.rules.limits failure.image checkpoint
    pub path : Path
    pub served : Served failure.rules.limits (items_of failure) (everywhere failure.rules.limits.keep env point) checkpoint path
    pub unharmed : IsUnharmed (pieces_of failure) point path.state
    pub lives : path.state.ended ≡ None
    pub stands : cpu.slots.live ≡ standing_of path
    pub wrote : Writes failure.rules.limits (items_of failure) cpu.base checkpoint (replicate cpu.slots.pages false) path cpu.written
    pub chose : path.choices ≡ checkpoint.choices ++ choices
    pub goes : CanGoOn failure.rules failure.entries path
    pub items : log.first ≤ path.state.machine.taken
    pub many : ledger.first ≤ length path.state.sends
    pub front : take ledger.first path.state.sends ≡ take ledger.first failure.failed.state.sends
    pub sent : ledger.trial ≡ Some (drop ledger.first path.state.sends)
    pub agrees : ledgers.Agrees ledger

  pub record TriesSomewhere (budget : ℕ) (permits : Heap → ℕ → ℕ → Bool) (point : ℕ) (env : Env) (cpu : CpuState R) (choices : List Choice) (log : Log) (ledger : Ledger) : Type 0 where
    pub failure : Failure
    pub checkpoint : Path
    pub under : IsUnder failure budget permits
    pub trying : IsTrying failure point checkpoint env cpu choices log ledger

  -- it stands at its request for the next item
  pub record IsAsking (failure : Failure) (point : ℕ) (checkpoint : Path) (env : Env) (cpu : CpuState R) (choices : List Choice) (log : Log) (ledger : Ledger) : Type 0 where
    pub trying : IsTrying failure point checkpoint env cpu choices log ledger
    pub asks : AsksFor failure.rules.limits (everywhere failure.rules.limits.keep env point) trying.path trying.path.state.machine.taken

  pub record AsksSomewhere (point : ℕ) (cpu : CpuState R) (log : Log) (ledger : Ledger) : Type 0 where
    pub failure : Failure
    pub checkpoint : Path
    pub env : Env
    pub choices : List Choice
    pub asking : IsAsking failure point checkpoint env cpu choices log ledger

  -- It has come to a result. Where it survives, the ledger has its sends.
  pub record HasCome (failure : Failure) (point : ℕ) (checkpoint : Path) (env : Env) (cpu : CpuState R) (choices : List Choice) (ledger : Ledger) (result : Tried) : Type 0 where
    pub path : Path
    pub trial : IsTrial failure.rules.limits (items_of failure) (plan_of_trial failure.rules.limits.keep failure.plan checkpoint.state.machine.taken env point) checkpoint (pieces_of failure) point path result
    pub stands : cpu.slots.live ≡ standing_of path
    pub wrote : Writes failure.rules.limits (items_of failure) cpu.base checkpoint (replicate cpu.slots.pages false) path cpu.written
    pub chose : path.choices ≡ checkpoint.choices ++ choices
    pub goes : CanGoOn failure.rules failure.entries path
    pub sent : survives result ≡ true → ledger.trial ≡ Some (drop ledger.first path.state.sends)

  -- Memory broke it off: its guest stands where it had come, by the plan that is in force if it is adopted.
  pub record HasStopped (failure : Failure) (point : ℕ) (checkpoint : Path) (env : Env) (cpu : CpuState R) : Type 0 where
    pub path : Path
    pub from : Served failure.rules.limits (items_of failure) (plan_of_trial failure.rules.limits.keep failure.plan checkpoint.state.machine.taken env point) checkpoint path
    pub stands : cpu.slots.live ≡ standing_of path

  -- it goes on, or has come to a result
  abbrev pub ComesIf : Failure → ℕ → Path → Env → CpuState R → List Choice → Log → Ledger → Option Tried → Type 0
  ComesIf failure point checkpoint env cpu choices log ledger None = IsTrying failure point checkpoint env cpu choices log ledger
  ComesIf failure point checkpoint env cpu choices log ledger (Some result) = HasCome failure point checkpoint env cpu choices ledger result

  -- by the answer of a turn, and of all turns
  abbrev pub TurnsBy : Failure → ℕ → Path → Env → CpuState R → List Choice → Log → Ledger → Result (Option Tried) AllocError → Type 0
  TurnsBy failure point checkpoint env cpu choices log ledger (Ok found) = ComesIf failure point checkpoint env cpu choices log ledger found
  TurnsBy failure point checkpoint env cpu choices log ledger (Err fault) = HasStopped failure point checkpoint env cpu

  abbrev pub ComesBy : Failure → ℕ → Path → Env → CpuState R → List Choice → Ledger → Result Tried AllocError → Type 0
  ComesBy failure point checkpoint env cpu choices ledger (Ok result) = HasCome failure point checkpoint env cpu choices ledger result
  ComesBy failure point checkpoint env cpu choices ledger (Err fault) = HasStopped failure point checkpoint env cpu
