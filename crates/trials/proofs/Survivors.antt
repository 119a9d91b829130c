-- The survivors of a session, one adopted behind the failure of the one before it.
use Rattle.session_notes.specs.declared.episode.Tried.TheVariants as tried
use Rattle.trials.proofs.Terms.{List, None, Option, Some, [], ap, append-nil, append_assoc, inl, inr, refl, subst, sym, true, ℕ, ◌++◌, ◌<◌, ◌∷◌, ◌≡◌, MatchOption, is_some, Item, Send, Entry, Cause, FailsBy, Limits, Override, Path, Served, origin, later_of, served_same, served_with, items_in, entries_of, gone_on, passed_in, Tried, survives, ComesTo, Trial, survivor_in, AreRecovered, IsRecovery, adopted_by, point_of, PointsRise, RecoveredFirst, RecoveredOn, RecoveredThen}
use Rattle.trials.proofs.Going.{later_served, Compared, Equal, Before, Behind, compare}
use Rattle.trials.proofs.Chained.{chained_from}
use Rattle.trials.proofs.Results.{asks_on, ended_on, fails_on, apart_asks_fails, apart_ended}
use Rattle.trials.proofs.Recovered.{recovery_adopts}
use Rattle.trials.proofs.Walked.{walk_adopts}

-- a run that goes on from a trial that survived, and fails, has taken the item at which the earlier one failed
past_point : (limits : Limits) (items more : List Item) (plan : List Override) (checkpoint : Path) (pieces : List Send) (point : ℕ) (path failed : Path) (cause : Cause) (result : Tried) → survives result ≡ true
    → ComesTo limits items plan checkpoint pieces point path result → Served limits more plan path failed → FailsBy limits plan failed cause → point < failed.state.machine.taken
past_point limits items more plan checkpoint pieces point path failed cause tried.Asks is comes on fails =
    elim (later_of limits more plan path failed on) [
      | inl same ↦ absurd (apart_asks_fails limits plan path point cause comes.1 (subst (λ (p : Path). FailsBy limits plan p cause) (sym same) fails))
      | inr later ↦ asks_on limits more plan path failed point comes.1 later
    ]
past_point limits items more plan checkpoint pieces point path failed cause (tried.Exits code) is comes on fails =
    elim (later_of limits more plan path failed on) [
      | inl same ↦ absurd (apart_ended failed fails.lives (subst (λ (p : Path). is_some p.state.ended ≡ true) same (ap is_some comes.1)))
      | inr later ↦ absurd (ended_on limits more plan path failed (ap is_some comes.1) later)
    ]
past_point limits items more plan checkpoint pieces point path failed cause (tried.Failed earlier) is comes on fails = absurd (cc)
past_point limits items more plan checkpoint pieces point path failed cause tried.Contradicts is comes on fails = absurd (cc)
past_point limits items more plan checkpoint pieces point path failed cause tried.Behind is comes on fails = absurd (cc)

-- a run from the start that fails goes on from each other one under its plan
behind_failed : (limits : Limits) (items : List Item) (plan : List Override) (start path failed : Path) (cause : Cause) → Served limits items plan start path → Served limits items plan start failed → FailsBy limits plan failed cause
    → Served limits items plan path failed
behind_failed limits items plan start path failed cause one other fails = of_compared (compare limits items plan start path failed one other)
  where
    of_compared : Compared limits items plan path failed → Served limits items plan path failed
    of_compared (Equal same) = subst (λ (p : Path). Served limits items plan path p) same (served_same limits items plan path)
    of_compared (Before later) = later_served limits items plan path failed later
    of_compared (Behind later) = absurd (fails_on limits items plan failed path cause fails later)

pub points_rise : PointsRise
points_rise rules image entries later more recovery next trial grown was is same then_fails =
    let items : List Item = items_in rules.bounds entries in
    let pieces : List Send = passed_in rules.bounds entries in
    let plan : List Override = (adopted_by rules recovery trial).plan in
    let it = walk_adopts rules.limits items recovery.survivor.plan pieces (point_of recovery) recovery.ring recovery.trials trial was.walks is in
    let ran = served_with rules.limits items more plan (origin image) trial.path (recovery_adopts rules image entries recovery trial was is).ran in
    let fails : FailsBy rules.limits plan next.survivor.now next.cause = subst (λ (p : List Override). FailsBy rules.limits p next.survivor.now next.cause) same then_fails.fails in
    let chain = chained_from rules.limits (items_in rules.bounds later) next.survivor.plan image next.survivor.now next.ring then_fails.chained in
    let under = subst (λ (p : List Override). Served rules.limits (items_in rules.bounds later) p (origin image) next.survivor.now) same chain in
    let failed = subst (λ (its : List Item). Served rules.limits its plan (origin image) next.survivor.now) grown under in
    past_point rules.limits items (items ++ more) plan trial.chance.checkpoint pieces (point_of recovery) trial.path next.survivor.now next.cause trial.result it.survives_it it.right.comes
    (behind_failed rules.limits (items ++ more) plan (origin image) trial.path next.survivor.now next.cause ran failed fails) fails

pub recovered_first : RecoveredFirst
recovered_first rules image = (refl, refl)

-- what holds of a trial that is there
with_trial : (o : Option Trial) (P Q : Trial → Type 0) → ((trial : Trial) → P trial → Q trial) → MatchOption o ⊥ P → MatchOption o ⊥ Q
with_trial None P Q so holds = holds
with_trial (Some trial) P Q so holds = so trial holds

pub recovered_on : RecoveredOn
recovered_on rules image before first [] [] now path are = are
recovered_on rules image before first [] (recovery ∷ recoveries) now path are = absurd are
recovered_on rules image before first (chapter ∷ chapters) [] now path are = absurd are
recovered_on rules image before first (chapter ∷ chapters) (recovery ∷ recoveries) now path are = (
  are.0,
  are.1,
  are.2,
  with_trial (survivor_in recovery.trials) (λ trial. AreRecovered rules image (before ++ chapter.entries) (adopted_by rules recovery trial) chapters recoveries now)
      (λ trial. AreRecovered rules image (before ++ chapter.entries) (adopted_by rules recovery trial) chapters recoveries (gone_on now path))
      (λ trial rest. recovered_on rules image (before ++ chapter.entries) (adopted_by rules recovery trial) chapters recoveries now path rest) are.3,
)

pub recovered_then : RecoveredThen
recovered_then rules image before first [] [] recovery since trial are was is = (
  are,
  refl,
  subst (λ (entries : List Entry). IsRecovery rules image (entries ++ since) recovery) (append-nil before) was,
  subst (λ (o : Option Trial). MatchOption o ⊥ (λ (next : Trial). AreRecovered rules image (before ++ since) (adopted_by rules recovery next) [] [] (adopted_by rules recovery trial))) (sym is) (refl, refl),
)
recovered_then rules image before first [] (earlier ∷ recoveries) recovery since trial are was is = absurd are
recovered_then rules image before first (chapter ∷ chapters) [] recovery since trial are was is = absurd are
recovered_then rules image before first (chapter ∷ chapters) (earlier ∷ recoveries) recovery since trial are was is =
    let behind = subst (λ (entries : List Entry). IsRecovery rules image (entries ++ since) recovery) (sym (append_assoc before chapter.entries (entries_of chapters))) was in (
      are.0,
      are.1,
      are.2,
      with_trial (survivor_in earlier.trials) (λ next. AreRecovered rules image (before ++ chapter.entries) (adopted_by rules earlier next) chapters recoveries recovery.survivor)
          (λ next. AreRecovered rules image (before ++ chapter.entries) (adopted_by rules earlier next) (chapters ++ record { survivor = recovery.survivor; entries = since } ∷ []) (recoveries ++ recovery ∷ []) (adopted_by rules recovery trial))
          (λ next rest. recovered_then rules image (before ++ chapter.entries) (adopted_by rules earlier next) chapters recoveries recovery since trial rest behind is) are.3,
    )
