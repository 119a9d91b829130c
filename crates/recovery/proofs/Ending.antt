-- A trial from its checkpoint to its result.
use Rattle.recovery.proofs.Terms.{Bool, List, None, Some, ap, drop, false, refl, subst, sym, true, ℕ, ◌≡◌, MatchBool, Choice, Heap, Env, Ledger, discarded, Path, CpuState, Tried, survives, Failure, IsUnder, HasCome, HasTried, KeepsSaved}

module _ {R : Type 0} where
  -- a trial that has come to its result, and is given up unless it survives
  pub settled_tried : {failure : Failure} {point : ℕ} {checkpoint : Path} {env : Env} {cpu : CpuState R} {choices : List Choice} {ledger after : Ledger} {result : Tried} → MatchBool (survives result) (after ≡ ledger) (after ≡ discarded ledger) → HasCome failure point checkpoint env cpu choices ledger result → HasTried failure point checkpoint env cpu choices after result
  settled_tried {ledger = ledger} {after = after} {result = result} left h = record {
    path = h.path;
    trial = h.trial;
    stands = h.stands;
    wrote = h.wrote;
    chose = h.chose;
    goes = h.goes;
    sent = of (survives result) refl left;
  }
    where
      of : (b : Bool) → survives result ≡ b → MatchBool b (after ≡ ledger) (after ≡ discarded ledger) → MatchBool b (after.trial ≡ Some (drop after.first h.path.state.sends)) (after.trial ≡ None)
      of true is same = subst (λ (l : Ledger). l.trial ≡ Some (drop l.first h.path.state.sends)) (sym same) (h.sent is)
      of false is gone = ap (λ (l : Ledger). l.trial) gone

  pub under_saved : (permits : R → Heap → ℕ → ℕ → Bool) (failure : Failure) {budget : ℕ} {old new : CpuState R} → KeepsSaved old new → IsUnder failure budget (permits old.rule) → IsUnder failure budget (permits new.rule)
  under_saved permits failure {budget = budget} saved under = subst (λ (rule : R). IsUnder failure budget (permits rule)) (sym saved.rule) under
