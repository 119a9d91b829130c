-- What each event of its guest makes of a trial.
use Rattle.reply_ledger.specs.Trials as ledgers
use Rattle.guest_cpu.specs.declared.event.Event.TheVariants as event
use Rattle.session_notes.specs.declared.episode.Tried.TheVariants as tried
use Rattle.recovery.proofs.Terms.{AllocError, Bool, List, None, Option, Some, [], ap, append_assoc, arith, length, refl, subst, sym, ℕ, ◌++◌, ◌<◌, ◌∙◌, ◌∷◌, ◌≡◌, ◌≤◌, Err, IsSome, Ok, Result, Choice, Heap, Env, Log, IsOpened, Ledger, NotBefore, times_of, trial_sends, Cause, AsksFor, FailsBy, Path, Event, CpuState, live_of, GoesOn, IsSilent, standing_of, Standing, served_on, Tried, trial_serves, everywhere, Failure, IsUnder, items_of, HasCome, HasStopped, IsAsking, IsJudged, IsLater, IsLaterIf, IsTrying, SendsBy, TurnsBy, KeepsSaved}
use Rattle.recovery.proofs.Running.{Ran, ran_on, goes_silently, SendsOn, ran_sends}
use Rattle.recovery.proofs.Coming.{comes_here, exits_past}
use Rattle.recovery.proofs.Sending.{sends_opened, sends_later, sends_same, sends_other}

-- by the answer of an event the count of instructions is later
pub later_if : (found : Option Tried) (low mid high : ℕ) → low ≤ mid → IsLaterIf found mid high → IsLaterIf found low high
later_if None low mid high le less = omega (arith, le, less)
later_if (Some result) low mid high le less = tt

pub later_sent : (result : Result (Option Tried) AllocError) (before now : ℕ) → before < now → IsLater result before now
later_sent (Ok None) before now less = less
later_sent (Ok (Some result)) before now less = tt
later_sent (Err fault) before now less = tt

module _ {R : Type 0} {failure : Failure} {point : ℕ} {checkpoint : Path} {env : Env} {old : CpuState R} {choices : List Choice} {log : Log} {ledger : Ledger} (t : IsTrying failure point checkpoint env old choices log ledger) (new : CpuState R) where
  -- it goes on no more from where it has come
  stops_there : (now : Path) → GoesOn failure.rules.limits (items_of failure) (everywhere failure.rules.limits.keep env point) t.path now → standing_of now ≡ new.slots.live → HasStopped failure point checkpoint env new
  stops_there now goes stands = record {
    path = now;
    from = trial_serves failure.rules.limits (items_of failure) failure.image failure.plan env point checkpoint now t.from (omega (arith, goes.taken, t.failed.some_keep, t.unharmed.early))
        (served_on failure.rules.limits (items_of failure) (everywhere failure.rules.limits.keep env point) checkpoint t.path now t.served goes.served);
    stands = sym stands;
  }

  module _ {budget : ℕ} (permits : Heap → ℕ → ℕ → Bool) (under : IsUnder failure budget permits) where
    -- the count of instructions never falls, whatever the guest ran to
    pub ran_least : (result : Result Event AllocError) → Ran budget permits env old new result → old.slots.live.steps ≤ new.slots.live.steps
    ran_least result ran =
        let runs = (ran_on t new permits under result ran).ran in
        omega (arith, ap (λ (s : Standing). s.steps) t.stands, ap (λ (s : Standing). s.steps) runs.stands, runs.goes.later)

    -- memory ran out behind what the guest ran to
    pub ran_stops : (result : Result Event AllocError) → Ran budget permits env old new result → HasStopped failure point checkpoint env new
    ran_stops result ran = let runs = (ran_on t new permits under result ran).ran in stops_there runs.now runs.goes runs.stands

    -- the guest ran to this event
    abbrev Ranto : Event → Type 0
    Ranto happened = Ran budget permits env old new (Ok happened)

    module _ {found : Event} where
      -- it asks for an item
      pub asks_now : found ≡ event.Asks → Ranto found → KeepsSaved old new → IsAsking failure point checkpoint env new choices log ledger
      unfolding goes_silently
      asks_now is ran saved =
          let both = ran_on t new permits under (Ok event.Asks) (subst Ranto is ran) in
          let runs = both.ran in
          let silent : IsSilent t.path runs.now = runs.comes.0 in
          let asks : AsksFor failure.rules.limits (everywhere failure.rules.limits.keep env point) runs.now t.path.state.machine.taken = runs.comes.1 in
          record {
            trying = goes_silently t runs.now saved runs.goes asks.lives silent.sends (silent.choices ∙ t.chose) runs.stands both.wrote;
            asks = subst (AsksFor failure.rules.limits (everywhere failure.rules.limits.keep env point) runs.now) (sym runs.goes.taken) asks;
          }

      -- an ask was answered
      pub chooses_now : (choice : Choice) → found ≡ event.Chooses choice → Ranto found → KeepsSaved old new → IsTrying failure point checkpoint env new (choices ++ choice ∷ []) log ledger
      chooses_now choice is ran saved =
          let both = ran_on t new permits under (Ok (event.Chooses choice)) (subst Ranto is ran) in
          let runs = both.ran in
          let comes = runs.comes in
          goes_silently t runs.now saved runs.goes comes.2 comes.1 (comes.0 ∙ (ap (λ (all : List Choice). all ++ choice ∷ []) t.chose ∙ append_assoc checkpoint.choices choices (choice ∷ []))) runs.stands both.wrote

      pub chooses_later : (choice : Choice) → found ≡ event.Chooses choice → Ranto found → old.slots.live.steps < new.slots.live.steps
      chooses_later choice is ran =
          let runs = (ran_on t new permits under (Ok (event.Chooses choice)) (subst Ranto is ran)).ran in
          omega (arith, ap (λ (s : Standing). s.steps) t.stands, ap (λ (s : Standing). s.steps) runs.stands, runs.comes.3)

      -- it ended itself
      pub exits_now : (code : ℕ) (result : Tried) → found ≡ event.Exits code → Ranto found → KeepsSaved old new → IsJudged (ledgers.Covers ledger) (tried.Exits code) result → HasCome failure point checkpoint env new choices ledger result
      exits_now code result is ran saved judged =
          let both = ran_on t new permits under (Ok (event.Exits code)) (subst Ranto is ran) in
          let runs = both.ran in
          exits_past t code result runs.now saved runs.goes runs.comes.0 runs.comes.1 runs.stands both.wrote judged

      -- it failed
      pub fails_now : (cause : Cause) → found ≡ event.Failed cause → Ranto found → KeepsSaved old new → HasCome failure point checkpoint env new choices ledger (tried.Failed cause)
      unfolding goes_silently
      fails_now cause is ran saved =
          let both = ran_on t new permits under (Ok (event.Failed cause)) (subst Ranto is ran) in
          let runs = both.ran in
          let silent : IsSilent t.path runs.now = runs.comes.0 in
          let fails : FailsBy failure.rules.limits (everywhere failure.rules.limits.keep env point) runs.now cause = runs.comes.1 in
          let here = goes_silently t runs.now saved runs.goes fails.lives silent.sends (silent.choices ∙ t.chose) runs.stands both.wrote in
          comes_here here (tried.Failed cause) (here.unharmed, fails)

      -- it sent bytes: what the ledger asks of them
      pub emits_asks : (conn : ℕ) (bytes : List ℕ) {taken : ℕ} → found ≡ event.Emits conn bytes → Ranto found → taken ≡ new.slots.live.guest.machine.taken
          → IsOpened ledger conn × (0 < length bytes) × IsSome ledger.trial × NotBefore taken (times_of (trial_sends ledger))
      emits_asks conn bytes is ran at =
          let s = ran_sends t new permits under conn bytes (subst Ranto is ran) in
          let now = at ∙ (ap (λ (x : Standing). x.guest.machine.taken) (sym s.stands) ∙ s.goes.taken) in (sends_opened t conn s.may, s.some, subst IsSome (sym t.sent) refl, sends_later t now)

      -- and what they make of the trial
      pub emits_now : (conn : ℕ) (bytes : List ℕ) {taken : ℕ} (after : Ledger) (result : Result (Option Tried) AllocError) → found ≡ event.Emits conn bytes → Ranto found → taken ≡ new.slots.live.guest.machine.taken → KeepsSaved old new
          → SendsBy ledger (record { conn = conn; bytes = bytes; taken = taken }) after result → TurnsBy failure point checkpoint env new choices log after result
      emits_now conn bytes {taken = taken} after result is ran at saved sent = of result sent
        where
          s : SendsOn failure.rules.limits (items_of failure) (everywhere failure.rules.limits.keep env point) old.base t.path old.written conn bytes (live_of new)
          s = ran_sends t new permits under conn bytes (subst Ranto is ran)

          now : taken ≡ t.path.state.machine.taken
          now = at ∙ (ap (λ (x : Standing). x.guest.machine.taken) (sym s.stands) ∙ s.goes.taken)

          of : (result : Result (Option Tried) AllocError) → SendsBy ledger (record { conn = conn; bytes = bytes; taken = taken }) after result → TurnsBy failure point checkpoint env new choices log after result
          of (Ok None) h = sends_same t s saved now h.0 h.1 (h.2 t.agrees)
          of (Ok (Some result)) h = subst (HasCome failure point checkpoint env new choices after) (sym h.2) (sends_other t taken s saved h.1)
          of (Err fault) h = stops_there s.now s.goes s.stands

      pub emits_later : (conn : ℕ) (bytes : List ℕ) → found ≡ event.Emits conn bytes → Ranto found → old.slots.live.steps < new.slots.live.steps
      emits_later conn bytes is ran =
          let s = ran_sends t new permits under conn bytes (subst Ranto is ran) in
          omega (arith, ap (λ (x : Standing). x.steps) t.stands, ap (λ (x : Standing). x.steps) s.stands, s.later)
