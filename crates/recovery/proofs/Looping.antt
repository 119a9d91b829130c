-- What holds of a trial while it goes on.
use Rattle.recovery.proofs.Terms.{Bool, List, ℕ, ◌+◌, ◌≡◌, ◌≤◌, Choice, Heap, Env, Path, Recoverable, Failure, IsUnder, IsTrying, TriesSomewhere, KeepsBase, KeepsLedger, KeepsRest}
use Rattle.recovery.proofs.Ending.{under_saved}

module _ {R : Type 0} where
  -- the trial that began is still one
  pub record HasGone (permits : R → Heap → ℕ → ℕ → Bool) (budget point : ℕ) (env : Env) (began now : Recoverable R) (chosen choices : List Choice) (before after : ℕ) : Type 0 where
    pub tries : (failure : Failure) (checkpoint : Path) → IsUnder failure budget (permits began.cpu.rule) → IsTrying failure point checkpoint env began.cpu chosen began.log began.replies → IsTrying failure point checkpoint env now.cpu choices now.log now.replies
    pub base : KeepsBase began.cpu now.cpu
    pub rest : KeepsRest began now
    pub ledger : KeepsLedger began.replies now.replies
    pub counted : after + began.cpu.slots.live.steps ≡ before + now.cpu.slots.live.steps
    pub least : before ≤ after

  pub tries_now : (permits : R → Heap → ℕ → ℕ → Bool) {budget point : ℕ} {env : Env} {began now : Recoverable R} {chosen choices : List Choice} {before after : ℕ} → HasGone permits budget point env began now chosen choices before after
      → TriesSomewhere budget (permits began.cpu.rule) point env began.cpu chosen began.log began.replies → TriesSomewhere budget (permits now.cpu.rule) point env now.cpu choices now.log now.replies
  tries_now permits gone w = record {
    failure = w.failure;
    checkpoint = w.checkpoint;
    under = under_saved permits w.failure gone.base.saved w.under;
    trying = gone.tries w.failure w.checkpoint w.under w.trying;
  }
