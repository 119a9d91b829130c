-- What trials keep of what a recovery may take back: from there trials can be made still.
use Rattle.recovery.proofs.Terms.{Bool, List, ap, length, refl, subst, sym, ℕ, ◌<◌, ◌∙◌, Heap, Checkpoint, Ledger, Standing, Recoverable, CanTry, FailedAt, Failure, IsUnder, KeepsLedger, KeepsRest, KeepsUntried}
use Rattle.recovery.proofs.Starting.{failed_still}
use Rattle.recovery.proofs.Running.{saved_on}
use Rattle.recovery.proofs.Ending.{under_saved}

module _ {R : Type 0} where
  -- over one trial more
  pub rest_on : (old mid new : Recoverable R) → KeepsRest old mid → KeepsRest mid new → KeepsRest old new
  rest_on old mid new first then = then ∙ ap (λ (held : Recoverable R). record held { cpu = new.cpu; replies = new.replies }) first

  pub untried_same : {held : Recoverable R} → KeepsUntried held held
  untried_same = record { saved = record { rule = refl; base = refl; saved = refl; count = refl; pages = refl; frames = refl }; rest = refl }

  pub untried_on : {old mid new : Recoverable R} → KeepsUntried old mid → KeepsUntried mid new → KeepsUntried old new
  untried_on {old = old} {mid = mid} {new = new} first then = record { saved = saved_on first.saved then.saved; rest = rest_on old mid new first.rest then.rest }

  -- also where its replies change once more
  pub untried_settled : {old new : Recoverable R} (after : Ledger) → KeepsUntried old new → KeepsUntried old (record new { replies = after })
  untried_settled after kept = record { saved = kept.saved; rest = ap (λ (held : Recoverable R). record held { replies = after }) kept.rest }

  -- the failure is there still,
  pub still_failed : {old new : Recoverable R} {point : ℕ} {failure : Failure} → KeepsUntried old new → KeepsLedger old.replies new.replies → FailedAt point failure old.cpu old.log old.replies → FailedAt point failure new.cpu new.log new.replies
  still_failed {new = new} {point = point} {failure = failure} kept ledger failed =
      subst (λ (held : Recoverable R). FailedAt point failure new.cpu held.log new.replies) (sym kept.rest) (failed_still kept.saved ledger failed)

  pub still_under : (permits : R → Heap → ℕ → ℕ → Bool) (failure : Failure) {budget : ℕ} {old new : Recoverable R} → KeepsUntried old new → IsUnder failure budget (permits old.cpu.rule) → IsUnder failure budget (permits new.cpu.rule)
  still_under permits failure kept under = under_saved permits failure kept.saved under

  -- and trials can be made of it
  pub can_still : (permits : R → Heap → ℕ → ℕ → Bool) {budget point : ℕ} {old new : Recoverable R} → KeepsUntried old new → KeepsLedger old.replies new.replies → CanTry budget (permits old.cpu.rule) point old.cpu old.log old.replies
      → CanTry budget (permits new.cpu.rule) point new.cpu new.log new.replies
  can_still permits kept ledger can = record { failure = can.failure; under = still_under permits can.failure kept can.under; failed = still_failed kept ledger can.failed }

  pub still_within : {old new : Recoverable R} {index : ℕ} → KeepsUntried old new → index < length old.cpu.slots.saved → index < length new.cpu.slots.saved
  still_within {index = index} kept within = subst (λ (all : List (Checkpoint Standing)). index < length all) (sym kept.saved.saved) within
