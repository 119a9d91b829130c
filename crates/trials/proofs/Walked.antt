-- What trials over a table fix.
use Rattle.trials.proofs.Terms.{Bool, List, None, Some, [], ap, cond, false, inl, inr, map, refl, subst, suc, sym, true, zero, ℕ, ◌++◌, ◌∙◌, ◌∷◌, ◌≡◌, ◌⊎◌, MatchBool-at_false, MatchBool-at_true, none-some, same_Some, MatchBool, slice_get, Item, Send, Env, Limits, Override, Path, AreBetween, Tried, survives, IsTrial, plan_of_trial, Chance, IsRight, Trial, WalksOver, chances_at, environments, survivor_in, table, NoneSurvives, OneWalk, WalkAdopts, WalkGivesUp}
use Rattle.trials.proofs.Results.{one_result}

-- the sends of a checkpoint were made with no more items than it took
abbrev IsTimed : Path → Type 0
IsTimed checkpoint = AreBetween 0 checkpoint.state.machine.taken checkpoint.state.sends

-- an element of two lists is one of the first or of the second
of_both : {X : Type 0} (xs ys : List X) (index : ℕ) (x : X) → slice_get (xs ++ ys) index ≡ Some x → (slice_get xs index ≡ Some x) ⊎ ((place : ℕ) × (slice_get ys place ≡ Some x))
of_both [] ys index x here = inr (index, here)
of_both (first ∷ xs) ys zero x here = inl here
of_both (first ∷ xs) ys (suc index) x here = of_both xs ys index x here

-- a chance at a checkpoint begins there
begins_there : (checkpoint : Path) (envs : List Env) (index : ℕ) (chance : Chance) → slice_get (chances_at checkpoint envs) index ≡ Some chance → checkpoint ≡ chance.checkpoint
begins_there checkpoint [] index chance here = absurd (none-some chance here)
begins_there checkpoint (env ∷ envs) zero chance here = ap (λ (c : Chance). c.checkpoint) (same_Some _ chance here)
begins_there checkpoint (env ∷ envs) (suc index) chance here = begins_there checkpoint envs index chance here

-- a chance of a table begins at a checkpoint of its ring
pub chance_of : (ring : List Path) (index : ℕ) (chance : Chance) → slice_get (table ring) index ≡ Some chance → (place : ℕ) × (slice_get ring place ≡ Some chance.checkpoint)
chance_of [] index chance here = absurd (none-some chance here)
chance_of (newest ∷ older) index chance here = by (of_both (chances_at newest environments) (table older) index chance here) (chance_of older)
  where
    by : (slice_get (chances_at newest environments) index ≡ Some chance) ⊎ ((place : ℕ) × (slice_get (table older) place ≡ Some chance))
        → ((at : ℕ) (other : Chance) → slice_get (table older) at ≡ Some other → (place : ℕ) × (slice_get older place ≡ Some other.checkpoint)) → (place : ℕ) × (slice_get (newest ∷ older) place ≡ Some chance.checkpoint)
    by (inl there) rest = (0, ap (λ (c : Path). Some c) (begins_there newest environments index chance there))
    by (inr there) rest = let later = rest there.0 chance there.1 in (suc later.0, later.1)

pub all_timed : (ring : List Path) → ((checkpoint : Path) (index : ℕ) → slice_get ring index ≡ Some checkpoint → IsTimed checkpoint) → (chance : Chance) (index : ℕ) → slice_get (table ring) index ≡ Some chance → IsTimed chance.checkpoint
all_timed ring timed chance index here =
    let found = chance_of ring index chance here in timed chance.checkpoint found.0 found.1

-- two trials of one chance are one
pub record SameTrial (trial other : Trial) : Type 0 where
  pub path : trial.path ≡ other.path
  pub result : trial.result ≡ other.result

pub same_trial : (limits : Limits) (items : List Item) (plan : List Override) (pieces : List Send) (point : ℕ) (trial other : Trial) → trial.chance ≡ other.chance → IsTimed trial.chance.checkpoint
    → IsRight limits items plan pieces point trial → IsRight limits items plan pieces point other → SameTrial trial other
same_trial limits items plan pieces point trial other same timed one two =
    let moved = subst (λ (c : Chance). IsTrial limits items (plan_of_trial limits.keep plan c.checkpoint.state.machine.taken c.env point) c.checkpoint pieces point other.path other.result) (sym same) two in
    let both = one_result limits items (plan_of_trial limits.keep plan trial.chance.checkpoint.state.machine.taken trial.chance.env point) trial.chance.checkpoint trial.path other.path pieces point trial.result other.result timed one moved in
    record { path = both.0; result = both.1 }

none_of : (limits : Limits) (items : List Item) (plan : List Override) (pieces : List Send) (point : ℕ) (chances : List Chance) (trials : List Trial)
    → ((chance : Chance) (index : ℕ) → slice_get chances index ≡ Some chance → IsTimed chance.checkpoint) → WalksOver limits items plan pieces point chances trials
    → ((trial : Trial) (index : ℕ) → slice_get trials index ≡ Some trial → survives trial.result ≡ false)
    → (other : Trial) (index : ℕ) → slice_get chances index ≡ Some other.chance → IsRight limits items plan pieces point other → survives other.result ≡ false
none_of limits items plan pieces point [] trials timed walks fails other index here right = absurd (none-some other.chance here)
none_of limits items plan pieces point (chance ∷ chances) [] timed walks fails other index here right = absurd walks
none_of limits items plan pieces point (chance ∷ chances) (trial ∷ trials) timed walks fails other zero here right =
    let is : trial.chance ≡ other.chance = walks.0 ∙ same_Some chance other.chance here in
    let same = same_trial limits items plan pieces point trial other is (subst (λ (c : Chance). IsTimed c.checkpoint) (sym walks.0) (timed chance 0 refl)) walks.1 right in
    ap survives (sym same.result) ∙ fails trial 0 refl
none_of limits items plan pieces point (chance ∷ chances) (trial ∷ trials) timed walks fails other (suc index) here right =
    none_of limits items plan pieces point chances trials (λ c i h. timed c (suc i) h)
    (MatchBool-at_false (trials ≡ []) (WalksOver limits items plan pieces point chances trials) (fails trial 0 refl) walks.2) (λ t i h. fails t (suc i) h) other index here right

pub none_survives : NoneSurvives
none_survives limits items plan pieces point ring trials timed walks fails other index here right =
    none_of limits items plan pieces point (table ring) trials (all_timed ring timed) walks fails other index here right

-- trials of the same chance, path and result are the same
equal_trials : (trial other : Trial) → trial.chance ≡ other.chance → trial.path ≡ other.path → trial.result ≡ other.result → trial ≡ other
equal_trials trial other chance path result =
    let first : trial ≡ record trial { chance = other.chance } = ap (λ (c : Chance). made c trial.path trial.result) chance in
    let second : record trial { chance = other.chance } ≡ record other { result = trial.result } = ap (λ (p : Path). made other.chance p trial.result) path in
    let third : record other { result = trial.result } ≡ other = ap (λ (r : Tried). made other.chance other.path r) result in
    first ∙ second ∙ third
  where
    made : Chance → Path → Tried → Trial
    made chance path result = record { chance = chance; path = path; result = result }

one_walk_of : (limits : Limits) (items : List Item) (plan : List Override) (pieces : List Send) (point : ℕ) (chances : List Chance) (trials others : List Trial)
    → ((chance : Chance) (index : ℕ) → slice_get chances index ≡ Some chance → IsTimed chance.checkpoint) → WalksOver limits items plan pieces point chances trials → WalksOver limits items plan pieces point chances others → trials ≡ others
one_walk_of limits items plan pieces point [] [] [] timed walks walked = refl
one_walk_of limits items plan pieces point [] [] (other ∷ others) timed walks walked = absurd walked
one_walk_of limits items plan pieces point [] (trial ∷ trials) others timed walks walked = absurd walks
one_walk_of limits items plan pieces point (chance ∷ chances) [] others timed walks walked = absurd walks
one_walk_of limits items plan pieces point (chance ∷ chances) (trial ∷ trials) [] timed walks walked = absurd walked
one_walk_of limits items plan pieces point (chance ∷ chances) (trial ∷ trials) (other ∷ others) timed walks walked =
    let is : trial.chance ≡ other.chance = walks.0 ∙ sym walked.0 in
    let same = same_trial limits items plan pieces point trial other is (subst (λ (c : Chance). IsTimed c.checkpoint) (sym walks.0) (timed chance 0 refl)) walks.1 walked.1 in
    let first : trial ≡ other = equal_trials trial other is same.path same.result in
    of_survives (survives trial.result) refl (ap survives (sym same.result)) first (one_walk_of limits items plan pieces point chances trials others (λ c i h. timed c (suc i) h)) walks.2 walked.2
  where
    of_survives : (b : Bool) → survives trial.result ≡ b → survives other.result ≡ survives trial.result → trial ≡ other
        → (WalksOver limits items plan pieces point chances trials → WalksOver limits items plan pieces point chances others → trials ≡ others)
        → MatchBool (survives trial.result) (trials ≡ []) (WalksOver limits items plan pieces point chances trials) → MatchBool (survives other.result) (others ≡ []) (WalksOver limits items plan pieces point chances others)
        → trial ∷ trials ≡ other ∷ others
    of_survives true is alike first by one two =
        let empty = MatchBool-at_true (others ≡ []) (WalksOver limits items plan pieces point chances others) (alike ∙ is) two in
        ap (λ (t : Trial). t ∷ trials) first ∙ ap (λ (ts : List Trial). other ∷ ts) ((MatchBool-at_true (trials ≡ []) (WalksOver limits items plan pieces point chances trials) is one) ∙ sym empty)
    of_survives false is alike first by one two =
        let further = MatchBool-at_false (others ≡ []) (WalksOver limits items plan pieces point chances others) (alike ∙ is) two in
        ap (λ (t : Trial). t ∷ trials) first ∙ ap (λ (ts : List Trial). other ∷ ts) (by (MatchBool-at_false (trials ≡ []) (WalksOver limits items plan pieces point chances trials) is one) further)

pub one_walk : OneWalk
one_walk limits items plan pieces point ring trials others timed walks walked = one_walk_of limits items plan pieces point (table ring) trials others (all_timed ring timed) walks walked

-- a trial that survives among those of a walk
record Found (limits : Limits) (items : List Item) (plan : List Override) (pieces : List Send) (point : ℕ) (chances : List Chance) (trials : List Trial) (trial : Trial) : Type 0 where
  right : IsRight limits items plan pieces point trial
  survives_it : survives trial.result ≡ true
  failing : List Trial
  last : trials ≡ failing ++ trial ∷ []
  none : survivor_in failing ≡ None
  place : ℕ
  here : slice_get chances place ≡ Some trial.chance

found : (limits : Limits) (items : List Item) (plan : List Override) (pieces : List Send) (point : ℕ) (chances : List Chance) (trials : List Trial) (trial : Trial) → WalksOver limits items plan pieces point chances trials
    → survivor_in trials ≡ Some trial → Found limits items plan pieces point chances trials trial
found limits items plan pieces point chances [] trial walks is = absurd (none-some trial is)
found limits items plan pieces point [] (first ∷ trials) trial walks is = absurd walks
found limits items plan pieces point (chance ∷ chances) (first ∷ trials) trial walks is = of_survives (survives first.result) refl is (found limits items plan pieces point chances trials trial)
  where
    of_survives : (b : Bool) → survives first.result ≡ b → cond b (Some first) (survivor_in trials) ≡ Some trial
        → (WalksOver limits items plan pieces point chances trials → survivor_in trials ≡ Some trial → Found limits items plan pieces point chances trials trial) → Found limits items plan pieces point (chance ∷ chances) (first ∷ trials) trial
    of_survives true fits is by =
        let same : first ≡ trial = same_Some first trial is in
        record {
          right = subst (IsRight limits items plan pieces point) same walks.1;
          survives_it = ap (λ (t : Trial). survives t.result) (sym same) ∙ fits;
          failing = [];
          last = ap (λ (ts : List Trial). first ∷ ts) (MatchBool-at_true (trials ≡ []) (WalksOver limits items plan pieces point chances trials) fits walks.2) ∙ ap (λ (t : Trial). t ∷ []) same;
          none = refl;
          place = 0;
          here = ap (λ (c : Chance). Some c) (sym walks.0 ∙ ap (λ (t : Trial). t.chance) same);
        }
    of_survives false fails is by =
        let rest = by (MatchBool-at_false (trials ≡ []) (WalksOver limits items plan pieces point chances trials) fails walks.2) is in
        record {
          right = rest.right;
          survives_it = rest.survives_it;
          failing = first ∷ rest.failing;
          last = ap (λ (ts : List Trial). first ∷ ts) rest.last;
          none = ap (λ (b : Bool). cond b (Some first) (survivor_in rest.failing)) fails ∙ rest.none;
          place = suc rest.place;
          here = rest.here;
        }

pub walk_adopts : WalkAdopts
walk_adopts limits items plan pieces point ring trials trial walks is =
    let it = found limits items plan pieces point (table ring) trials trial walks is in
    let from = chance_of ring it.place trial.chance it.here in
    record { right = it.right; survives_it = it.survives_it; failing = it.failing; last = it.last; none = it.none; index = from.0; checkpoint = from.1 }

-- where no trial survives, each fails
pub none_fails : (trials : List Trial) → survivor_in trials ≡ None → (trial : Trial) (index : ℕ) → slice_get trials index ≡ Some trial → survives trial.result ≡ false
none_fails [] none trial index here = absurd (none-some trial here)
none_fails (first ∷ trials) none trial index here = of_survives (survives first.result) refl none (none_fails trials) index here
  where
    of_index : survives first.result ≡ false → ((trial : Trial) (index : ℕ) → slice_get trials index ≡ Some trial → survives trial.result ≡ false) → (index : ℕ) → slice_get (first ∷ trials) index ≡ Some trial → survives trial.result ≡ false
    of_index fails by zero here = ap (λ (t : Trial). survives t.result) (sym (same_Some first trial here)) ∙ fails
    of_index fails by (suc index) here = by trial index here

    of_survives : (b : Bool) → survives first.result ≡ b → cond b (Some first) (survivor_in trials) ≡ None
        → (survivor_in trials ≡ None → (trial : Trial) (index : ℕ) → slice_get trials index ≡ Some trial → survives trial.result ≡ false) → (index : ℕ) → slice_get (first ∷ trials) index ≡ Some trial → survives trial.result ≡ false
    of_survives true fits none by index here = absurd (none-some first (sym none))
    of_survives false fails none by index here = of_index fails (by none) index here

whole_of : (limits : Limits) (items : List Item) (plan : List Override) (pieces : List Send) (point : ℕ) (chances : List Chance) (trials : List Trial) → WalksOver limits items plan pieces point chances trials
    → ((trial : Trial) (index : ℕ) → slice_get trials index ≡ Some trial → survives trial.result ≡ false) → map (λ (trial : Trial). trial.chance) trials ≡ chances
whole_of limits items plan pieces point [] [] walks fails = refl
whole_of limits items plan pieces point [] (trial ∷ trials) walks fails = absurd walks
whole_of limits items plan pieces point (chance ∷ chances) [] walks fails = absurd walks
whole_of limits items plan pieces point (chance ∷ chances) (trial ∷ trials) walks fails =
    let rest = whole_of limits items plan pieces point chances trials (MatchBool-at_false (trials ≡ []) (WalksOver limits items plan pieces point chances trials) (fails trial 0 refl) walks.2) (λ t i h. fails t (suc i) h) in
    ap (λ (c : Chance). c ∷ map (λ (t : Trial). t.chance) trials) walks.0 ∙ ap (λ (cs : List Chance). chance ∷ cs) rest

pub walk_gives_up : WalkGivesUp
walk_gives_up limits items plan pieces point ring trials walks none = (whole_of limits items plan pieces point (table ring) trials walks (none_fails trials none), none_fails trials none)
