-- What a recovery makes of a failure, from what its walk left.
use Rattle.recovery.proofs.Terms.{List, Option, Some, [], ap, arith, drop, length, refl, subst, sym, take, ℕ, ◌++◌, ◌+◌, ◌-◌, ◌<◌, ◌∙◌, ◌≡◌, ◌≤◌, slice_get_within, Choice, Checkpoint, Slots, Ledger, AsksFor, Path, Served, CpuState, standing_of, Standing, Episode, Try, chained_at, steps_later, IsRecovery, episode_of, Trial, WalksOver, table, plan_of_trial, Adopted, FailureSite, Failure, Held, items_of, pieces_of, HasWalked, KeepsSaved, StandsOn, HasBegun, HasSameBytes, IsEpisode, IsInForce, Adopts, HasAdoptedRun, HasToRecover, KeepsSlots, recovery_of}
use Rattle.recovery.proofs.Stands.{ring_length}
use Rattle.recovery.proofs.RingLemmas.{ring_beside, ring_adopts}
use Rattle.recovery.proofs.Forces.{in_force_from}
use Rattle.recovery.proofs.Survived.{HasSurvived, adopted_asks, OwnAnswers, own_answers}

-- what is asked for before a trial is adopted
pub record CanAdopt {R : Type 0} (index : ℕ) (own : List Choice) (held : Held R) : Type 0 where
  pub within : index < length held.cpu.slots.saved
  pub base : StandsOn held.cpu index
  pub few : held.recorded + length own ≤ held.cpu.slots.live.guest.machine.allocations
  pub first : held.cpu.slots.live.guest.machine.allocations ≤ held.recorded + length held.choices + length own

module _ {R : Type 0} {site : FailureSite} {failure : Failure} {old : Held R} (has : HasToRecover site failure old) where
  -- the walk was over the table of the survivor's checkpoints, so it is a recovery
  pub recovers : (begun : Path) {cpu : CpuState R} {own : List Choice} {ledger later : Ledger} {before after : ℕ} {tries : List Try} {adopted : Option Adopted} (w : HasWalked failure site.point cpu own ledger later before after tries adopted)
      → IsRecovery failure.rules failure.image failure.entries (recovery_of failure begun site.cause w.trials)
  recovers begun w = record {
    fails = has.fails;
    chained = has.failed.has.chained;
    checkpoints = has.failed.has.checkpoints;
    walks = subst (λ n. WalksOver failure.rules.limits (items_of failure) failure.plan (pieces_of failure) n (table failure.ring) w.trials) (sym has.failed.point_is) w.walks;
  }

  -- memory broke the walk off, at as many items as the survivor had taken
  pub begun_at : {before after : ℕ} → HasBegun failure site.point (table failure.ring) before after → HasBegun failure failure.failed.state.machine.taken (table failure.ring) before after
  begun_at {before = before} {after = after} b = subst (λ n. HasBegun failure n (table failure.ring) before after) (sym has.failed.point_is) b

  -- the episode tells of it
  pub episode_tells : (begun : Path) (episode : Episode) {cpu : CpuState R} {own : List Choice} {ledger later : Ledger} {before after : ℕ} {adopted : Option Adopted} → IsEpisode site episode
      → (w : HasWalked failure site.point cpu own ledger later before after episode.tries adopted) → episode ≡ episode_of (recovery_of failure begun site.cause w.trials)
  episode_tells begun episode is w =
      λ i. record { point = (is.point_is ∙ sym has.failed.point_is) i; cause = is.cause_is i; pc = (is.pc_is ∙ sym has.pc_is) i; tries = w.tries_are i }

  module _ {walked : Held R} {trials : List Trial} {adopted : Adopted} {own : List Choice} (keeps : KeepsSaved old.cpu walked.cpu) (rest : walked ≡ record old { cpu = walked.cpu; replies = walked.replies })
      (s : HasSurvived failure site.point trials adopted walked.cpu own walked.replies) where
    -- the answers of the allocator of the trial that survived
    own_of : OwnAnswers old.recorded failure.failed s.trial.path own
    own_of = own_answers failure.plan failure.image failure.ring adopted.index has.early has.failed.has.chained s.from s.right.from s.adopts.chose

    pub can_adopt : CanAdopt adopted.index own walked
    can_adopt =
        let answers = own_of in
        let there = ap (λ (one : Standing). one.guest.machine.allocations) s.adopts.stands in
        let recorded = ap (λ (held : Held R). held.recorded) rest in
        let many : length walked.choices ≡ length (drop old.recorded failure.failed.choices) = ap (λ (held : Held R). length held.choices) rest ∙ ap length has.chose in
        record {
          within = omega (arith, slice_get_within failure.ring adopted.index s.trial.chance.checkpoint s.from, ring_length old.cpu.slots.saved failure.ring has.ring.saved, ap length keeps.saved);
          base = s.adopts.stands_on;
          few = omega (arith, there, recorded, answers.few);
          first = omega (arith, there, recorded, many, answers.first);
        }

    -- the session goes on as the trial
    pub adopts_run : (begun : Path) (new : Held R) → HasSameBytes old.replies walked.replies → Adopts adopted.index own walked new → new ≡ record walked { cpu = new.cpu; choices = new.choices }
        → HasAdoptedRun failure (recovery_of failure begun site.cause trials) s.trial adopted new
    adopts_run begun new same adopts after =
        let trial : Trial = s.trial in
        let checkpoint : Path = trial.chance.checkpoint in
        let what =
        adopted_asks (items_of failure) (plan_of_trial failure.rules.limits.keep failure.plan checkpoint.state.machine.taken trial.chance.env site.point) checkpoint (pieces_of failure) adopted.index adopted.env trial.result s.adopts.adopted_is
        s.right.comes in
        let answers = own_of in
        let there : walked.cpu.slots.live ≡ standing_of trial.path = s.adopts.stands in
        let chain = chained_at failure.rules.limits (items_of failure) failure.plan failure.image failure.failed failure.ring adopted.index checkpoint has.failed.has.chained s.from in
        subst (HasAdoptedRun failure (recovery_of failure begun site.cause trials) s.trial adopted) (sym (after ∙ ap (λ (held : Held R). record held { cpu = new.cpu; choices = new.choices }) rest))
        (record {
          env_is = s.env_is;
          code_is = what.0;
          asks = λ lives. subst (AsksFor failure.rules.limits [] trial.path) (sym has.failed.point_is) (what.1 lives);
          stands = ap (λ (slots : Slots Standing). slots.live) adopts.slots ∙ there;
          chose =
              adopts.choices_are ∙ ((λ i. take ((there i).guest.machine.allocations - length own - (rest i).recorded) (((λ j. (rest j).choices) ∙ has.chose) i) ++ own) ∙ answers.joins);
          low = answers.low;
          front = answers.front;
          from = s.from;
          ring =
              ring_beside
              (ring_adopts has.ring trial.chance.env failure.failed.state.machine.taken adopted.index s.from
              (subst (λ n. Served failure.rules.limits (items_of failure) (plan_of_trial failure.rules.limits.keep failure.plan checkpoint.state.machine.taken trial.chance.env n) checkpoint trial.path) (sym has.failed.point_is) s.right.from) keeps s.adopts.stands_on adopts s.adopts.wrote)
              refl same.first;
          in_force =
              subst (λ e. IsInForce failure.rules.limits.base (plan_of_trial failure.rules.limits.keep failure.plan checkpoint.state.machine.taken trial.chance.env failure.failed.state.machine.taken) failure.failed.state.machine.taken e (failure.failed.state.machine.taken + failure.rules.limits.keep)) (sym s.env_is)
              (in_force_from trial.chance.env adopted.index has.ring has.fails s.from);
          replies = s.adopts.replies;
          goes = s.adopts.goes;
          enough = omega (arith, steps_later failure.rules.limits (items_of failure) failure.plan checkpoint failure.failed chain.0, s.least);
        })

    -- behind an adoption the checkpoints stand up to its own
    pub adopted_slots : {new : Held R} → Adopts adopted.index own walked new → KeepsSlots (Some adopted) old.cpu new.cpu
    adopted_slots adopts = (
      subst (λ (all : List (Checkpoint Standing)). adopted.index < length all) keeps.saved can_adopt.within,
      ap (λ (slots : Slots Standing). slots.saved) adopts.slots ∙ ap (drop adopted.index) keeps.saved,
    )
