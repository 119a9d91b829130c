-- The first host's run has reached what it told, and so has each run that goes on from there.
use Rattle.session_notes.specs.declared.episode.Tried.TheVariants as tried
use Rattle.session_history.proofs.Due.{due_ran}
use Rattle.session_notes.specs.declared.episode.Tried.{Tried}
use Rattle.follow.proofs.Terms.{List, None, Option, Some, [], ap, arith, false, inl, inr, length, length-append, map, refl, subst, sym, true, ℕ, ◌++◌, ◌<◌, ◌∙◌, ◌∷◌, ◌≡◌, ◌≤◌, ◌⊎◌, IfSome_then, last_or, IfSome, IsSome, MatchOption, is_some, Item, Prefix, Send, sent_to, Entry, Image, prefix_trans, output, AsksFor, Limits, Override, Path, Served, origin, Later, later_of, served_on, served_same, items_in, Chapter, Rules, Survivor, place_of, passed_in, first_survivor, Episode, survives, Before, Behind, Compared, Equal, compare, later_served, later_steps, taken_later, apart_asks_fails, asks_on, ended_on, walk_adopts, AreRecovered, BeginsAs, IsRecovery, Recovery, adopted_by, episode_of, point_of, Trial, survivor_in, ComesTo, plan_of, AreWider, IsLonger, AtExit, AtFailure, AtRequest, HasReached, IsPastFailure, Stand, StandsPast, IsFollowed, IsTakeover, Takeover, heard_first, passed_first, plan_in, stopped, FollowsBefore, NoWaiting, ReachesInTime}
use Rattle.follow.proofs.Runs.{asks_wider, is_longer, served_all, served_wider}
use Rattle.follow.proofs.Past.{past_exit, past_on}
use Rattle.follow.proofs.Told.{plan_of_report}

-- a run that goes on from a trial that survived is past the failure wherever it stands
past_stand : (limits wider : Limits) (items all : List Item) (plan : List Override) (checkpoint : Path) (pieces : List Send) (episode : Episode) (begun path : Path) (result : Tried) (stand : Stand wider plan path)
    → AreWider limits wider → survives result ≡ true → ComesTo limits items plan checkpoint pieces episode.point begun result → Served wider all plan begun path → IsPastFailure stand episode
past_stand limits wider items all plan checkpoint pieces episode begun path tried.Asks (AtRequest asks) are is comes on = omega (arith, comes.1.taken, taken_later wider all plan begun path on)
past_stand limits wider items all plan checkpoint pieces episode begun path tried.Asks (AtExit ended) are is comes on = tt
past_stand limits wider items all plan checkpoint pieces episode begun path tried.Asks (AtFailure cause fails) are is comes on =
    let asked = asks_wider limits wider plan begun episode.point are comes.1 in
    elim (later_of wider all plan begun path on) [
      | inl same ↦ absurd (apart_asks_fails wider plan path episode.point cause (subst (λ (p : Path). AsksFor wider plan p episode.point) same asked) fails)
      | inr later ↦ asks_on wider all plan begun path episode.point asked later
    ]
past_stand limits wider items all plan checkpoint pieces episode begun path (tried.Exits code) stand are is comes on =
    elim (later_of wider all plan begun path on) [
      | inl same ↦ past_exit wider plan path episode stand (subst (λ (p : Path). IsSome p.state.ended) same (ap is_some comes.1))
      | inr later ↦ absurd (ended_on wider all plan begun path (ap is_some comes.1) later)
    ]
past_stand limits wider items all plan checkpoint pieces episode begun path (tried.Failed cause) stand are is comes on = absurd (cc)
past_stand limits wider items all plan checkpoint pieces episode begun path tried.Contradicts stand are is comes on = absurd (cc)
past_stand limits wider items all plan checkpoint pieces episode begun path tried.Behind stand are is comes on = absurd (cc)

-- behind the recovery of an episode a survivor began as the trial that survived
record Began (rules : Rules) (image : Image) (now : Survivor) (episode : Episode) : Type 0 where
  entries : List Entry
  recovery : Recovery
  trial : Trial
  was : IsRecovery rules image entries recovery
  is : survivor_in recovery.trials ≡ Some trial
  point : episode.point ≡ point_of recovery
  plan : now.plan ≡ (adopted_by rules recovery trial).plan
  begun : now.begun ≡ trial.path

-- or it began past that episode, as the first survivor does where the session followed another one
abbrev BeganPast : Rules → Image → Survivor → Episode → Type 0
BeganPast rules image now episode = Began rules image now episode ⊎ StandsPast rules.limits now.plan now.begun episode

began_same : (rules : Rules) (image : Image) (first now : Survivor) (episode : Episode) → BeginsAs first now → BeganPast rules image first episode → BeganPast rules image now episode
began_same rules image first now episode same (inl began) = inl (record {
  entries = began.entries;
  recovery = began.recovery;
  trial = began.trial;
  was = began.was;
  is = began.is;
  point = began.point;
  plan = same.0 ∙ began.plan;
  begun = same.1 ∙ began.begun;
})
began_same rules image first now episode same (inr past) =
    inr (subst (λ (plan : List Override). StandsPast rules.limits plan now.begun episode) (sym same.0) (subst (λ (begun : Path). StandsPast rules.limits first.plan begun episode) (sym same.1) past))

-- so the last survivor began behind the last episode
began_behind : (rules : Rules) (image : Image) (before : List Entry) (first : Survivor) (chapters : List Chapter) (recoveries : List Recovery) (now : Survivor) (last : Option Episode)
    → IfSome last (BeganPast rules image first) → AreRecovered rules image before first chapters recoveries now → IfSome (last_or last (map episode_of recoveries)) (BeganPast rules image now)
began_behind rules image before first [] [] now last was are = IfSome_then last was (λ episode began. began_same rules image first now episode are began)
began_behind rules image before first [] (recovery ∷ recoveries) now last was are = absurd are
began_behind rules image before first (chapter ∷ chapters) [] now last was are = absurd are
began_behind rules image before first (chapter ∷ chapters) (recovery ∷ recoveries) now last was are =
    of (survivor_in recovery.trials) refl (λ trial began rest. began_behind rules image (before ++ chapter.entries) (adopted_by rules recovery trial) chapters recoveries now (Some (episode_of recovery)) began rest) are.3
  where
    of : (o : Option Trial) → survivor_in recovery.trials ≡ o
        → ((trial : Trial) → BeganPast rules image (adopted_by rules recovery trial) (episode_of recovery) → AreRecovered rules image (before ++ chapter.entries) (adopted_by rules recovery trial) chapters recoveries now
        → IfSome (last_or (Some (episode_of recovery)) (map episode_of recoveries)) (BeganPast rules image now))
        → MatchOption o ⊥ (λ trial. AreRecovered rules image (before ++ chapter.entries) (adopted_by rules recovery trial) chapters recoveries now)
        → IfSome (last_or (Some (episode_of recovery)) (map episode_of recoveries)) (BeganPast rules image now)
    of None is so rest = absurd rest
    of (Some trial) is so rest = so trial (inl (record { entries = before ++ chapter.entries; recovery = recovery; trial = trial; was = are.2; is = is; point = refl; plan = refl; begun = refl })) rest

-- a run from where a survivor began, under its plan, is past the episode behind which it began
past_began : (rules : Rules) (image : Image) (wider : Limits) (all : List Item) (plan : List Override) (now : Survivor) (episode : Episode) (path : Path) (stand : Stand wider plan path) → now.plan ≡ plan
    → AreWider rules.limits wider → Served wider all plan now.begun path → BeganPast rules image now episode → IsPastFailure stand episode
past_began rules image wider all plan now episode path stand same are on (inr past) =
    let there : StandsPast rules.limits plan now.begun episode = subst (λ (p : List Override). StandsPast rules.limits p now.begun episode) same past in
    past_on rules.limits wider all plan now.begun path episode there.0 stand are there.1 on
past_began rules image wider all plan now episode path stand same are on (inl began) =
    let items : List Item = items_in rules.bounds began.entries in
    let pieces : List Send = passed_in rules.bounds began.entries in
    let checkpoint : Path = began.trial.chance.checkpoint in
    let it =
    walk_adopts rules.limits items began.recovery.survivor.plan pieces (point_of began.recovery) began.recovery.ring began.recovery.trials began.trial began.was.walks began.is in
    let planned =
    subst (λ (p : List Override). ComesTo rules.limits items p checkpoint pieces (point_of began.recovery) began.trial.path began.trial.result) (sym began.plan ∙ same) it.right.comes in
    let comes = subst (λ (point : ℕ). ComesTo rules.limits items plan checkpoint pieces point began.trial.path began.trial.result) (sym began.point) planned in
    past_stand rules.limits wider items all plan checkpoint pieces episode began.trial.path path began.trial.result stand are it.survives_it comes
    (subst (λ (p : Path). Served wider all plan p path) began.begun on)

-- the last of two lists
last_of_both : {X : Type 0} (last : Option X) (xs ys : List X) → last_or last (xs ++ ys) ≡ last_or (last_or last xs) ys
last_of_both last [] ys = refl
last_of_both last (x ∷ xs) ys = last_of_both (Some x) xs ys

-- a front is no longer
pub front_length : (xs ys : List ℕ) → Prefix xs ys → length xs ≤ length ys
front_length xs ys front = omega (arith, ap length (sym front.1), length-append xs front.0)

-- the survivor's plan is the one that was told
same_plan : (over : Takeover) → IsTakeover over → over.session.survivor.plan ≡ plan_in over
same_plan over is = plan_of_report over.rules over.image over.before over.session.earlier over.recoveries over.session.survivor is.told is.recovered ∙ ap (plan_of over.rules.limits.keep) (sym is.handed_by.episodes) ∙ ap (λ (keep : ℕ). plan_of keep over.handed.episodes) (sym is.wide.keep)

-- the first host's run, under the second one's limits and on all items
pub first_served : (over : Takeover) (first second : Path) → IsTakeover over → Served over.rules.limits (heard_first over) over.session.survivor.plan first second → Served over.limits over.items (plan_in over) first second
first_served over first second is served =
    subst (λ (plan : List Override). Served over.limits over.items plan first second) (same_plan over is)
    (served_all over.limits (heard_first over) over.items over.session.survivor.plan first second is.first (served_wider over.rules.limits over.limits (heard_first over) over.session.survivor.plan first second is.wide served))

pub reaches_in_time : ReachesInTime
reaches_in_time over path stand is on =
    let now : Path = stopped over in
    let begun : Path = over.session.survivor.begun in
    let longer = is_longer over.limits over.items (plan_in over) now path on in
    let ran = due_ran over.rules (heard_first over) over.session.survivor (place_of over.session.earlier [] false) over.session.since is.account.since in
    let all = served_on over.limits over.items (plan_in over) begun now path (first_served over begun now is ran) on in
    let began = began_behind over.rules over.image [] (first_survivor over.rules over.image) over.session.earlier over.recoveries over.session.survivor (last_or None over.before)
    (IfSome_then (last_or None over.before) is.past (λ episode past. inr past)) is.recovered in
    record {
      past =
          subst (λ (last : Option Episode). IfSome last (IsPastFailure stand))
          (sym (ap (last_or None) is.handed_by.episodes ∙ last_of_both None over.before (map episode_of over.recoveries)))
          (IfSome_then (last_or (last_or None over.before) (map episode_of over.recoveries)) began
          (λ episode it. past_began over.rules over.image over.limits over.items (plan_in over) over.session.survivor episode path stand (same_plan over is) is.wide all it));
      chose = prefix_trans over.handed.choices now.choices path.choices is.handed_by.choices longer.choices;
      finished = IfSome_then over.handed.finish is.handed_by.finish (λ finish here. omega (arith, here.0, longer.steps));
      covers = λ conn.
          omega (
            arith,
            is.handed_by.counts conn,
            front_length (sent_to conn (passed_first over)) (output now.state conn) (is.account.passed conn),
            front_length (output now.state conn) (output path.state conn) (longer.outputs conn),
          );
    }

-- of a run that follows and the first host's, on all items, one goes on as the other
pub beside : (over : Takeover) (path : Path) → IsTakeover over → IsFollowed over path → Compared over.limits over.items (plan_in over) path (stopped over)
beside over path is followed =
    compare over.limits over.items (plan_in over) (origin over.image) path (stopped over) (served_all over.limits followed.heard over.items (plan_in over) (origin over.image) path followed.first followed.ran)
    (first_served over (origin over.image) (stopped over) is is.account.served)

-- where the first host stopped, or behind that
pub reached_there : (over : Takeover) (path : Path) (stand : Stand over.limits (plan_in over) path) → IsTakeover over → path ≡ stopped over → HasReached over.limits over.handed path stand
reached_there over path stand is same =
    reaches_in_time over path stand is
    (subst (λ (p : Path). Served over.limits over.items (plan_in over) (stopped over) p) (sym same) (served_same over.limits over.items (plan_in over) (stopped over)))

pub reached_behind : (over : Takeover) (path : Path) (stand : Stand over.limits (plan_in over) path) → IsTakeover over → Later over.limits over.items (plan_in over) (stopped over) path → HasReached over.limits over.handed path stand
reached_behind over path stand is later = reaches_in_time over path stand is (later_served over.limits over.items (plan_in over) (stopped over) path later)

pub follows_before : FollowsBefore
follows_before over path stand is followed = of_compared (beside over path is followed)
  where
    of_compared : Compared over.limits over.items (plan_in over) path (stopped over)
        → HasReached over.limits over.handed path stand ⊎ (IsLonger over.limits over.items (plan_in over) path (stopped over) × (path.steps < (stopped over).steps))
    of_compared (Equal same) = inl (reached_there over path stand is same)
    of_compared (Before later) =
        inr (
          is_longer over.limits over.items (plan_in over) path (stopped over) (later_served over.limits over.items (plan_in over) path (stopped over) later),
          later_steps over.limits over.items (plan_in over) path (stopped over) later,
        )
    of_compared (Behind later) = inl (reached_behind over path stand is later)

pub no_waiting : NoWaiting
no_waiting over path asks is followed = of_compared (beside over path is followed)
  where
    of_compared : Compared over.limits over.items (plan_in over) path (stopped over) → HasReached over.limits over.handed path (AtRequest asks) ⊎ (path.state.machine.taken < (stopped over).state.machine.taken)
    of_compared (Equal same) = inl (reached_there over path (AtRequest asks) is same)
    of_compared (Before later) = inr (asks_on over.limits over.items (plan_in over) path (stopped over) path.state.machine.taken asks later)
    of_compared (Behind later) = inl (reached_behind over path (AtRequest asks) is later)
