-- A trial comes to its result.
use Rattle.reply_ledger.specs.Trials as ledgers
use Rattle.session_notes.specs.declared.episode.Tried.TheVariants as tried
use Rattle.recovery.proofs.Terms.{List, Some, ap, arith, drop, false, inl, inr, subst, sym, true, ℕ, ◌++◌, ◌∙◌, ◌≡◌, ◌≤◌, is_some, replicate, Send, Choice, Env, Log, Ledger, AsksFor, Path, Served, CpuState, GoesOn, IsSilent, standing_of, Writes, served_on, received, Tried, survives, trial_comes, IsCheckpoint, everywhere, ComesTo, IsUnharmed, CanGoOn, Failure, items_of, pieces_of, HasCome, IsAsking, IsJudged, IsTrying, KeepsSaved}
use Rattle.recovery.proofs.Joining.{Beside, covers_now, now_covers, now_covers_before}
use Rattle.recovery.proofs.Running.{unharmed_still, can_still, wrote_on}

-- a result of a run in the trial's environment
pub comes_at : {R : Type 0} (failure : Failure) {point : ℕ} {checkpoint : Path} (env : Env) {cpu : CpuState R} {choices : List Choice} {ledger : Ledger} (path : Path) (result : Tried) → 1 ≤ failure.rules.limits.keep → IsCheckpoint failure.rules.limits failure.image checkpoint
    → Served failure.rules.limits (items_of failure) (everywhere failure.rules.limits.keep env point) checkpoint path → ComesTo failure.rules.limits (items_of failure) (everywhere failure.rules.limits.keep env point) checkpoint (pieces_of failure) point path result
    → cpu.slots.live ≡ standing_of path → Writes failure.rules.limits (items_of failure) cpu.base checkpoint (replicate cpu.slots.pages false) path cpu.written → path.choices ≡ checkpoint.choices ++ choices → CanGoOn failure.rules failure.entries path
    → (survives result ≡ true → ledger.trial ≡ Some (drop ledger.first path.state.sends)) → HasCome failure point checkpoint env cpu choices ledger result
comes_at failure {point = point} {checkpoint = checkpoint} env path result some from served comes stands wrote chose goes sent =
    let trial = trial_comes failure.rules.limits (items_of failure) failure.image failure.plan env point checkpoint path (pieces_of failure) result some from (record { from = served; comes = comes }) in
    record { path = path; trial = trial; stands = stands; wrote = wrote; chose = chose; goes = goes; sent = sent }

module _ {R : Type 0} {failure : Failure} {point : ℕ} {checkpoint : Path} {env : Env} {old : CpuState R} {choices : List Choice} {log : Log} {ledger : Ledger} (t : IsTrying failure point checkpoint env old choices log ledger) where
  -- the ledger beside the run of a trial
  pub beside : Beside (received failure.rules.bounds failure.entries) ledger failure.failed.state.sends t.path.state.sends (pieces_of failure)
  beside = record { shows = t.failed.has.replies.shows; whole = t.failed.has.covers; ordered = t.failed.has.ordered; front = t.front; sent = t.sent }

  -- a result that the trial comes to where it stands
  pub comes_here : (result : Tried) → ComesTo failure.rules.limits (items_of failure) (everywhere failure.rules.limits.keep env point) checkpoint (pieces_of failure) point t.path result → HasCome failure point checkpoint env old choices ledger result
  comes_here result comes = comes_at failure env t.path result t.failed.some_keep t.from t.served comes t.stands t.wrote t.chose t.goes (λ survived. t.sent)

  -- it ended itself
  pub exits_past : {new : CpuState R} (code : ℕ) (result : Tried) (now : Path) → KeepsSaved old new → GoesOn failure.rules.limits (items_of failure) (everywhere failure.rules.limits.keep env point) t.path now → IsSilent t.path now → now.state.ended ≡ Some code → standing_of now ≡ new.slots.live
      → Writes failure.rules.limits (items_of failure) old.base t.path old.written now new.written → IsJudged (ledgers.Covers ledger) (tried.Exits code) result → HasCome failure point checkpoint env new choices ledger result
  exits_past {new = new} code result now saved goes silent ended stands wrote judged = of judged
    where
      b : Beside (received failure.rules.bounds failure.entries) ledger failure.failed.state.sends now.state.sends (pieces_of failure)
      b = subst (λ (all : List Send). Beside (received failure.rules.bounds failure.entries) ledger failure.failed.state.sends all (pieces_of failure)) (sym silent.sends) beside

      unharmed : IsUnharmed (pieces_of failure) point now.state
      unharmed = unharmed_still (pieces_of failure) point t.path.state now.state silent.sends goes.taken t.unharmed

      comes : (result : Tried) → ComesTo failure.rules.limits (items_of failure) (everywhere failure.rules.limits.keep env point) checkpoint (pieces_of failure) point now result → HasCome failure point checkpoint env new choices ledger result
      comes result so =
          comes_at failure env now result t.failed.some_keep t.from (served_on failure.rules.limits (items_of failure) (everywhere failure.rules.limits.keep env point) checkpoint t.path now t.served goes.served) so (sym stands) (wrote_on failure checkpoint t.path now saved t.wrote wrote) (silent.choices ∙ t.chose)
          (can_still failure.rules (items_of failure) (everywhere failure.rules.limits.keep env point) failure.entries t.path now t.lives goes silent.sends t.goes) (λ survived. t.sent ∙ ap (λ (all : List Send). Some (drop ledger.first all)) (sym silent.sends))

      of : IsJudged (ledgers.Covers ledger) (tried.Exits code) result → HasCome failure point checkpoint env new choices ledger result
      of (inl all) =
          subst (HasCome failure point checkpoint env new choices ledger) (sym all.1)
          (comes (tried.Exits code) (unharmed, ended, covers_now (received failure.rules.bounds failure.entries) ledger failure.failed.state.sends now.state.sends (pieces_of failure) b all.0))
      of (inr short) =
          subst (HasCome failure point checkpoint env new choices ledger) (sym short.1)
          (comes tried.Behind (unharmed, inr (inr (ap is_some ended), λ covers. short.0 (now_covers (received failure.rules.bounds failure.entries) ledger failure.failed.state.sends now.state.sends (pieces_of failure) b covers))))

module _ {R : Type 0} {failure : Failure} {point : ℕ} {checkpoint : Path} {env : Env} {old : CpuState R} {choices : List Choice} {log : Log} {ledger : Ledger} (a : IsAsking failure point checkpoint env old choices log ledger) {taken : ℕ} (is : taken ≡ a.trying.path.state.machine.taken) where
  -- it asks for the item that the run that failed never took
  pub asks_past : {result : Tried} → taken ≡ point → IsJudged (ledgers.Covers ledger) tried.Asks result → HasCome failure point checkpoint env old choices ledger result
  asks_past {result = result} same judged = of judged
    where
      asks : AsksFor failure.rules.limits (everywhere failure.rules.limits.keep env point) a.trying.path point
      asks = subst (AsksFor failure.rules.limits (everywhere failure.rules.limits.keep env point) a.trying.path) (sym is ∙ same) a.asks

      of : IsJudged (ledgers.Covers ledger) tried.Asks result → HasCome failure point checkpoint env old choices ledger result
      of (inl all) =
          subst (HasCome failure point checkpoint env old choices ledger) (sym all.1)
          (comes_here a.trying tried.Asks (a.trying.unharmed, asks, covers_now (received failure.rules.bounds failure.entries) ledger failure.failed.state.sends a.trying.path.state.sends (pieces_of failure) (beside a.trying) all.0))
      of (inr short) =
          subst (HasCome failure point checkpoint env old choices ledger) (sym short.1)
          (comes_here a.trying tried.Behind
          (a.trying.unharmed, inr (inl asks, λ covers. short.0 (now_covers (received failure.rules.bounds failure.entries) ledger failure.failed.state.sends a.trying.path.state.sends (pieces_of failure) (beside a.trying) covers))))

  -- it asks for an earlier item, and hasn't sent all that was passed before it came
  pub asks_behind : (taken ≡ point → ⊥) → (ledgers.CoversBefore ledger taken → ⊥) → HasCome failure point checkpoint env old choices ledger tried.Behind
  asks_behind other short =
      comes_here a.trying tried.Behind (
        a.trying.unharmed,
        inl (
          taken,
          record {
            early = omega (arith, is, other, a.trying.unharmed.early);
            asks = subst (AsksFor failure.rules.limits (everywhere failure.rules.limits.keep env point) a.trying.path) (sym is) a.asks;
            behind = λ covers. short (now_covers_before (received failure.rules.bounds failure.entries) taken ledger failure.failed.state.sends a.trying.path.state.sends (pieces_of failure) (beside a.trying) covers);
          },
        ),
      )
