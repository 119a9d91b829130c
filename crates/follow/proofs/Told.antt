-- The plan that a report tells is that of the survivor.
use Rattle.follow.proofs.Terms.{Bool, List, None, Option, Some, [], ap, cond, false, map, refl, sym, true, ℕ, ◌++◌, ◌∙◌, ◌∷◌, ◌≡◌, option_map_or, MatchOption, option_map, Override, Rules, Survivor, first_survivor, Episode, Try, survives, AreRecovered, Recovery, adopted_by, episode_of, point_of, Trial, survivor_in, try_of, plan_of_trial, adopted_try, plan_behind, plan_from, plan_of, GivenUpAddsNothing, PlanIsTold, PlanOfReport}

-- the trial that survives is told as the one that does
pub adopted_told : (trials : List Trial) → adopted_try (map try_of trials) ≡ option_map try_of (survivor_in trials)
adopted_told [] = refl
adopted_told (trial ∷ trials) = of (survives trial.result) (adopted_told trials)
  where
    of : (lives : Bool) → adopted_try (map try_of trials) ≡ option_map try_of (survivor_in trials)
        → cond lives (Some (try_of trial)) (adopted_try (map try_of trials)) ≡ option_map try_of (cond lives (Some trial) (survivor_in trials))
    of true rest = refl
    of false rest = rest

-- so behind a recovery that adopts a trial the plan of its episode is that of the trial
behind_told : (rules : Rules) (plan : List Override) (recovery : Recovery) (trial : Trial) → recovery.survivor.plan ≡ plan → survivor_in recovery.trials ≡ Some trial → (adopted_by rules recovery trial).plan ≡ plan_behind rules.limits.keep plan (episode_of recovery)
behind_told rules plan recovery trial same is =
    ap (λ (before : List Override). plan_of_trial rules.limits.keep before trial.chance.checkpoint.state.machine.taken trial.chance.env (point_of recovery)) same
    ∙ ap (λ (o : Option Try). option_map_or (λ (attempt : Try). plan_of_trial rules.limits.keep plan attempt.checkpoint attempt.env (point_of recovery)) o plan)
    (ap (λ (o : Option Trial). option_map try_of o) (sym is) ∙ sym (adopted_told recovery.trials))

pub plan_is_told : PlanIsTold
plan_is_told rules image before first [] [] now are = are.0
plan_is_told rules image before first [] (recovery ∷ recoveries) now are = absurd are
plan_is_told rules image before first (chapter ∷ chapters) [] now are = absurd are
plan_is_told rules image before first (chapter ∷ chapters) (recovery ∷ recoveries) now are =
    of (survivor_in recovery.trials) refl (λ trial rest. plan_is_told rules image (before ++ chapter.entries) (adopted_by rules recovery trial) chapters recoveries now rest) are.3
  where
    of : (o : Option Trial) → survivor_in recovery.trials ≡ o
        → ((trial : Trial) → AreRecovered rules image (before ++ chapter.entries) (adopted_by rules recovery trial) chapters recoveries now → now.plan ≡ plan_from rules.limits.keep (adopted_by rules recovery trial).plan (map episode_of recoveries))
        → MatchOption o ⊥ (λ trial. AreRecovered rules image (before ++ chapter.entries) (adopted_by rules recovery trial) chapters recoveries now)
        → now.plan ≡ plan_from rules.limits.keep (plan_behind rules.limits.keep first.plan (episode_of recovery)) (map episode_of recoveries)
    of None is so rest = absurd rest
    of (Some trial) is so rest =
        so trial rest
        ∙ ap (λ (plan : List Override). plan_from rules.limits.keep plan (map episode_of recoveries))
        (behind_told rules first.plan recovery trial (ap (λ (survivor : Survivor). survivor.plan) are.1 ∙ are.0.0) is)

-- behind some episodes the plan goes on as behind others
plan_behind_both : (keep : ℕ) (plan : List Override) (episodes more : List Episode) → plan_from keep plan (episodes ++ more) ≡ plan_from keep (plan_from keep plan episodes) more
plan_behind_both keep plan [] more = refl
plan_behind_both keep plan (episode ∷ episodes) more = plan_behind_both keep (plan_behind keep plan episode) episodes more

pub plan_of_report : PlanOfReport
plan_of_report rules image before chapters recoveries now told are =
    plan_is_told rules image [] (first_survivor rules image) chapters recoveries now are
    ∙ ap (λ (plan : List Override). plan_from rules.limits.keep plan (map episode_of recoveries)) told
    ∙ sym (plan_behind_both rules.limits.keep [] before (map episode_of recoveries))

pub given_up_adds_nothing : GivenUpAddsNothing
given_up_adds_nothing keep episodes recovery none =
    let plan = plan_of keep episodes in
    plan_behind_both keep [] episodes (episode_of recovery ∷ [])
    ∙ ap (λ (o : Option Try). option_map_or (λ (attempt : Try). plan_of_trial keep plan attempt.checkpoint attempt.env (point_of recovery)) o plan)
    (adopted_told recovery.trials ∙ ap (λ (o : Option Trial). option_map try_of o) none)
