-- The environment that is in force behind the last episode of a report.
use Rattle.std.specs.Option.{option_map_or}
use Rattle.trials.specs.Trials.{plan_of_trial}
use Rattle.session_following.proofs.Terms.{Bool, List, None, Option, Some, [], ap, arith, cond, get_or, length, ltb, refl, subst, sym, take, ℕ, ◌++◌, ◌+◌, ◌-◌, ◌∙◌, ◌∷◌, ◌≡◌, ◌≤◌, false≢true, le-ltb, take_all, take_more, last_or, IfSome, is_some, Env, Override, env_at, Episode, Try, AreWellPlaced, IsWellPlaced, adopted_try, first_count, plan_behind, plan_from, plan_of, IsInForce, EndsAfter, IsFollowedBy}

-- the plan behind an episode of which a trial survived
behind_trial : (keep : ℕ) (plan : List Override) (episode : Episode) (attempt : Try) → adopted_try episode.tries ≡ Some attempt → plan_behind keep plan episode ≡ plan_of_trial keep plan attempt.checkpoint attempt.env episode.point
behind_trial keep plan episode attempt is = ap (λ (o : Option Try). option_map_or (λ (one : Try). plan_of_trial keep plan one.checkpoint one.env episode.point) o plan) is

-- a list by its last element
pub last_split : {A : Type 0} (xs : List A) (x : A) → 1 ≤ length xs → x ≡ get_or xs (length xs - 1) x → xs ≡ take (length xs - 1) xs ++ x ∷ []
last_split {A = A} xs x some is =
    let n : ℕ = length xs - 1 in
    let more : take (n + 1) xs ≡ take n xs ++ get_or xs n x ∷ [] = take_more xs n x (omega arith) in
    let whole : take (n + 1) xs ≡ xs = take_all (n + 1) xs (omega arith) in
    sym whole ∙ (more ∙ ap (λ (y : A). take n xs ++ y ∷ []) (sym is))

last_end : {A : Type 0} (found : Option A) (xs : List A) (x : A) → last_or found (xs ++ x ∷ []) ≡ Some x
last_end found [] x = refl
last_end found (y ∷ xs) x = last_end (Some y) xs x

pub last_is : {A : Type 0} (xs : List A) (x : A) → 1 ≤ length xs → x ≡ get_or xs (length xs - 1) x → last_or None xs ≡ Some x
last_is {A = A} xs x some is = ap (λ (l : List A). last_or None l) (last_split xs x some is) ∙ last_end None (take (length xs - 1) xs) x

-- the plan behind the last episode
plan_end : (keep : ℕ) (plan : List Override) (episodes : List Episode) (episode : Episode) → plan_from keep plan (episodes ++ episode ∷ []) ≡ plan_behind keep (plan_from keep plan episodes) episode
plan_end keep plan [] episode = refl
plan_end keep plan (first ∷ episodes) episode = plan_end keep (plan_behind keep plan first) episodes episode

-- what is in force behind it
pub last_in_force : (base : Env) (keep : ℕ) (episodes : List Episode) (episode : Episode) (attempt : Try) (taken : ℕ) → 1 ≤ length episodes → episode ≡ get_or episodes (length episodes - 1) episode → adopted_try episode.tries ≡ Some attempt
    → first_count attempt.checkpoint ≤ episode.point → episode.point ≤ taken → IsInForce base (plan_of keep episodes) taken attempt.env (episode.point + keep)
last_in_force base keep episodes episode attempt taken some last is placed behind =
    let front : List Episode = take (length episodes - 1) episodes in
    let whole : plan_of keep episodes ≡ plan_of_trial keep (plan_of keep front) attempt.checkpoint attempt.env episode.point = ap (plan_of keep) (last_split episodes episode some last) ∙ (plan_end keep [] front episode ∙ behind_trial keep (plan_of keep front) episode attempt is) in
    record {
      in_force = λ count from.
          ap (λ (p : List Override). env_at base p count) whole
          ∙ ap (λ (b : Bool). cond b (env_at base (plan_of keep front) count) (cond (ltb count (episode.point + keep)) attempt.env base)) (le-ltb count (first_count attempt.checkpoint) (omega (arith, from, placed, behind)));
    }

-- without an episode it is the base
pub none_in_force : (base : Env) (keep : ℕ) (episodes : List Episode) (taken : ℕ) → episodes ≡ [] → IsInForce base (plan_of keep episodes) taken base 0
none_in_force base keep episodes taken none = record { in_force = λ count from. ap (λ (l : List Episode). env_at base (plan_of keep l) count) none ∙ sym (ap (λ (b : Bool). cond b base base) (le-ltb count 0 (omega arith))) }

-- what is said of the last episode, by where it stands
pub followed_last : (episodes : List Episode) (episode : Episode) (taken : ℕ) → 1 ≤ length episodes → episode ≡ get_or episodes (length episodes - 1) episode → IsFollowedBy taken (last_or None episodes) → IsFollowedBy taken (Some episode)
followed_last episodes episode taken some last behind = subst (λ (o : Option Episode). IsFollowedBy taken o) (last_is episodes episode some last) behind

pub placed_last : (episodes : List Episode) (episode : Episode) (attempt : Try) → 1 ≤ length episodes → episode ≡ get_or episodes (length episodes - 1) episode → adopted_try episode.tries ≡ Some attempt → AreWellPlaced episodes
    → first_count attempt.checkpoint ≤ episode.point
placed_last episodes episode attempt some last is placed =
    subst (λ (o : Option Try). IfSome o (λ (one : Try). first_count one.checkpoint ≤ episode.point)) is
    (subst (λ (e : Episode). IsWellPlaced e) (sym last) (placed (length episodes - 1) episode (omega arith)))

pub ends_last : (keep : ℕ) (episodes : List Episode) (episode : Episode) → 1 ≤ length episodes → episode ≡ get_or episodes (length episodes - 1) episode → EndsAfter keep (last_or None episodes) (episode.point + keep)
ends_last keep episodes episode some last = subst (λ (o : Option Episode). EndsAfter keep o (episode.point + keep)) (sym (last_is episodes episode some last)) refl

-- it has a trial that survived
pub none_left : (episodes : List Episode) (episode : Episode) (taken : ℕ) → 1 ≤ length episodes → episode ≡ get_or episodes (length episodes - 1) episode → IsFollowedBy taken (last_or None episodes) → adopted_try episode.tries ≡ None → ⊥
none_left episodes episode taken some last behind none =
    false≢true (sym (ap (λ (o : Option Try). is_some o) none) ∙ (followed_last episodes episode taken some last behind).0)
