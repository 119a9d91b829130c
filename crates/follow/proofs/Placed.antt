-- The environments of a report are in force at the failures after which they were adopted.
use Rattle.trials.proofs.Asking.{asks_under_all}
use Rattle.trials.proofs.Chained.{chained_at}
use Rattle.trials.specs.Chains.{AreCheckpoints, IsCheckpoint}
use Rattle.follow.proofs.Terms.{List, None, Option, Some, [], arith, cond, eqb, inl, inr, map, refl, subst, suc, sym, zero, ℕ, ◌++◌, ◌+◌, ◌<◌, ◌∙◌, ◌∷◌, ◌≡◌, ◌≤◌, ◌⊎◌, cond_both, eqb-false, All-append, IfSome, MatchOption, option_map, slice_get, Item, Entry, Image, Cause, AsksFor, FailsBy, Limits, Override, Path, Served, origin, items_in, Chapter, Rules, Survivor, passed_in, first_survivor, Episode, Try, past_request, start_taken, apart_asks_fails, walk_adopts, AreRecovered, IsRecovery, Recovery, adopted_by, episode_of, point_of, Trial, survivor_in, try_of, AreWellPlaced, IsWellPlaced, adopted_try, first_count, IsTakeover, Takeover, EpisodesArePlaced}
use Rattle.follow.proofs.Told.{adopted_told}

-- a checkpoint of a ring by its index
at_index : (limits : Limits) (image : Image) (ring : List Path) (index : ℕ) (checkpoint : Path) → AreCheckpoints limits image ring → slice_get ring index ≡ Some checkpoint → IsCheckpoint limits image checkpoint
at_index limits image [] index checkpoint are here = absurd (cc here)
at_index limits image (newest ∷ older) zero checkpoint are here = subst (IsCheckpoint limits image) (some_same newest checkpoint here) are.0
  where
    some_same : (one other : Path) → Some one ≡ Some other → one ≡ other
    some_same one other is = cc
at_index limits image (newest ∷ older) (suc index) checkpoint are here = at_index limits image older index checkpoint are.1 here

-- one from which a run fails is the start, or has taken fewer items
before_failure : (limits : Limits) (items : List Item) (image : Image) (plan : List Override) (checkpoint failed : Path) (cause : Cause) → IsCheckpoint limits image checkpoint → Served limits items plan checkpoint failed → FailsBy limits plan failed cause
    → (checkpoint.state.machine.taken ≡ 0) ⊎ (checkpoint.state.machine.taken < failed.state.machine.taken)
before_failure limits items image plan checkpoint failed cause (inl is) served fails = inl (start_taken image checkpoint is)
before_failure limits items image plan checkpoint failed cause (inr asks) served fails =
    elim (past_request limits items plan checkpoint failed asks.1 served) [
      | inl same ↦
          absurd (apart_asks_fails limits plan failed checkpoint.state.machine.taken cause
          (asks_under_all limits [] plan failed checkpoint.state.machine.taken (subst (λ (p : Path). AsksFor limits [] p checkpoint.state.machine.taken) same asks.1)) fails)
      | inr past ↦ inr past
    ]

-- so its trial is in force at the failure
in_time : (checkpoint point : ℕ) → (checkpoint ≡ 0) ⊎ (checkpoint < point) → first_count checkpoint ≤ point
in_time checkpoint point from = cond_both (eqb checkpoint 0) 0 (checkpoint + 1) (λ n. n ≤ point) (λ _. omega arith) (λ some. of from (eqb-false checkpoint 0 some))
  where
    of : (checkpoint ≡ 0) ⊎ (checkpoint < point) → (checkpoint ≡ 0 → ⊥) → checkpoint + 1 ≤ point
    of (inl none) some = absurd (some none)
    of (inr past) some = omega (arith, past)

trial_placed : (rules : Rules) (image : Image) (entries : List Entry) (recovery : Recovery) (trial : Trial) → IsRecovery rules image entries recovery → survivor_in recovery.trials ≡ Some trial
    → first_count trial.chance.checkpoint.state.machine.taken ≤ point_of recovery
trial_placed rules image entries recovery trial was is =
    let items : List Item = items_in rules.bounds entries in
    let adopted = walk_adopts rules.limits items recovery.survivor.plan (passed_in rules.bounds entries) (point_of recovery) recovery.ring recovery.trials trial was.walks is in
    let at = at_index rules.limits image recovery.ring adopted.index trial.chance.checkpoint was.checkpoints adopted.checkpoint in
    let chain = chained_at rules.limits items recovery.survivor.plan image recovery.survivor.now recovery.ring adopted.index trial.chance.checkpoint was.chained adopted.checkpoint in
    in_time trial.chance.checkpoint.state.machine.taken (point_of recovery)
    (before_failure rules.limits items image recovery.survivor.plan trial.chance.checkpoint recovery.survivor.now recovery.cause at chain.0 was.fails)

-- a recovery's episode is well placed
recovery_placed : (recovery : Recovery) (trial : Trial) → survivor_in recovery.trials ≡ Some trial → first_count trial.chance.checkpoint.state.machine.taken ≤ point_of recovery → IsWellPlaced (episode_of recovery)
recovery_placed recovery trial is placed =
    subst (λ (o : Option Try). IfSome o (λ (attempt : Try). first_count attempt.checkpoint ≤ point_of recovery)) (sym (adopted_told recovery.trials))
    (subst (λ (o : Option Trial). IfSome (option_map try_of o) (λ (attempt : Try). first_count attempt.checkpoint ≤ point_of recovery)) (sym is) placed)

-- one more at the front
one_more : (episode : Episode) (episodes : List Episode) → IsWellPlaced episode → AreWellPlaced episodes → AreWellPlaced (episode ∷ episodes)
one_more episode episodes first rest zero d below = first
one_more episode episodes first rest (suc k) d below = rest k d (omega (arith, below))

recovered_placed : (rules : Rules) (image : Image) (before : List Entry) (first : Survivor) (chapters : List Chapter) (recoveries : List Recovery) (now : Survivor) → AreRecovered rules image before first chapters recoveries now → AreWellPlaced (map episode_of recoveries)
recovered_placed rules image before first [] [] now are = λ k d below. absurd (omega (arith, below))
recovered_placed rules image before first [] (recovery ∷ recoveries) now are = absurd are
recovered_placed rules image before first (chapter ∷ chapters) [] now are = absurd are
recovered_placed rules image before first (chapter ∷ chapters) (recovery ∷ recoveries) now are =
    of (survivor_in recovery.trials) refl (λ trial rest. recovered_placed rules image (before ++ chapter.entries) (adopted_by rules recovery trial) chapters recoveries now rest) are.3
  where
    of : (o : Option Trial) → survivor_in recovery.trials ≡ o → ((trial : Trial) → AreRecovered rules image (before ++ chapter.entries) (adopted_by rules recovery trial) chapters recoveries now → AreWellPlaced (map episode_of recoveries))
        → MatchOption o ⊥ (λ trial. AreRecovered rules image (before ++ chapter.entries) (adopted_by rules recovery trial) chapters recoveries now) → AreWellPlaced (map episode_of (recovery ∷ recoveries))
    of None is so rest = absurd rest
    of (Some trial) is so rest =
        one_more (episode_of recovery) (map episode_of recoveries) (recovery_placed recovery trial is (trial_placed rules image (before ++ chapter.entries) recovery trial are.2 is)) (so trial rest)

pub episodes_are_placed : EpisodesArePlaced
episodes_are_placed over is =
    subst (λ (episodes : List Episode). AreWellPlaced episodes) (sym is.handed_by.episodes)
    (All-append IsWellPlaced over.before (map episode_of over.recoveries) is.placed
    (recovered_placed over.rules over.image [] (first_survivor over.rules over.image) over.session.earlier over.recoveries over.session.survivor is.recovered))
