-- A failure at which a watch looked: a walk behind that is a walk of the failure.
use Rattle.recovery.proofs.Terms.{AllocError, List, None, Option, Some, [], arith, refl, subst, ℕ, ◌+◌, ◌≡◌, Err, Ok, Result, Choice, Ledger, discarded, CpuState, Chance, Trial, Adopted, Walked, Failure, LeavesBy, steps_of, HasBegun, WalksBy}

-- none was begun, where memory ran out before
pub none_begun : (failure : Failure) (point : ℕ) (chances : List Chance) {before after : ℕ} → after ≡ before → HasBegun failure point chances before after
none_begun failure point chances same = record {
  unfinished = record { trials = []; last = None };
  begins = tt;
  counted = let none : steps_of [] ≡ 0 = refl in omega (arith, none, same);
}

module _ {R : Type 0} where
  leaves_behind : (failure : Failure) (trials : List Trial) (cpu : CpuState R) (choices : List Choice) (old new : Ledger) (adopted : Option Adopted) → LeavesBy failure trials cpu choices (discarded old) new adopted → LeavesBy failure trials cpu choices old new adopted
  leaves_behind failure trials cpu choices old new None leaves = leaves
  leaves_behind failure trials cpu choices old new (Some adopted) leaves = leaves

  pub walks_behind : (failure : Failure) (point : ℕ) (cpu : CpuState R) (choices : List Choice) (old : Ledger) {mid : Ledger} (new : Ledger) (ran later before started after : ℕ) (result : Result Walked AllocError) → mid ≡ discarded old → started + ran ≡ before + later
      → WalksBy failure point cpu choices mid new started after result → WalksBy failure point cpu choices old new (later + before) (ran + after) result
  walks_behind failure point cpu choices old new ran later before started after (Err fault) is looked walks =
      record { unfinished = walks.unfinished; begins = walks.begins; counted = omega (arith, looked, walks.counted) }
  walks_behind failure point cpu choices old new ran later before started after (Ok walked) is looked walks = record {
    trials = walks.trials;
    tries_are = walks.tries_are;
    walks = walks.walks;
    leaves = leaves_behind failure walks.trials cpu choices old new walked.adopted (subst (λ (ledger : Ledger). LeavesBy failure walks.trials cpu choices ledger new walked.adopted) is walks.leaves);
    counted = omega (arith, looked, walks.counted);
  }
