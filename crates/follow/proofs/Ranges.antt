-- The plan of a report as ranges.
use Rattle.follow.proofs.Terms.{Bool, List, None, Option, Some, [], ap, arith, cond, eqb, false, ltb, refl, sym, true, ℕ, ◌+◌, ◌<◌, ◌∙◌, ◌∷◌, ◌≡◌, lt-ltb, ltb-false, ltb-true, option_map_or, filter, nat_lt, Env, Override, env_at, Episode, Try, plan_of_trial, adopted_try, plan_behind, plan_from, AreFalling, BeginBefore, ranges_behind, ranges_from, unmasked, RangesAreExact, RangesFall}

-- those that begin before a count
abbrev before : ℕ → List Override → List Override
before low plan = filter (λ (earlier : Override). nat_lt earlier.low low) plan

-- below that count the others aren't asked
unasked : (base : Env) (plan : List Override) (low count : ℕ) → count < low → env_at base (before low plan) count ≡ env_at base plan count
unasked base [] low count below = refl
unasked base (override ∷ plan) low count below = of (ltb override.low low) refl (unasked base plan low count below)
  where
    of : (b : Bool) → ltb override.low low ≡ b → env_at base (before low plan) count ≡ env_at base plan count → env_at base (cond b (override ∷ before low plan) (before low plan)) count ≡ env_at base (override ∷ plan) count
    of true is rest = ap (λ (env : Env). cond (ltb count override.low) env (cond (ltb count override.until) override.env base)) rest
    of false is rest =
        rest
        ∙ ap (λ (b : Bool). cond b (env_at base plan count) (cond (ltb count override.until) override.env base)) (sym (lt-ltb count override.low (omega (arith, below, ltb-false override.low low is))))

-- where two plans say the same, they do so behind one more override, of which the first keeps those that it doesn't mask
one_more : (base : Env) (plan ranges : List Override) (override : Override) → ((count : ℕ) → env_at base ranges count ≡ env_at base plan count) → (count : ℕ) → env_at base (unmasked (override ∷ ranges)) count ≡ env_at base (override ∷ plan) count
one_more base plan ranges override same count = of (ltb count override.low) refl
  where
    of : (b : Bool) → ltb count override.low ≡ b
        → cond b (env_at base (before override.low ranges) count) (cond (ltb count override.until) override.env base) ≡ cond b (env_at base plan count) (cond (ltb count override.until) override.env base)
    of true is = unasked base ranges override.low count (ltb-true count override.low is) ∙ same count
    of false is = refl

-- and behind an episode, and some
exact_behind : (base : Env) (keep : ℕ) (plan ranges : List Override) (episode : Episode) → ((count : ℕ) → env_at base ranges count ≡ env_at base plan count) → (count : ℕ) → env_at base (ranges_behind keep ranges episode) count ≡ env_at base (plan_behind keep plan episode) count
exact_behind base keep plan ranges episode same = of (adopted_try episode.tries)
  where
    of : (o : Option Try) → (count : ℕ)
        → env_at base (option_map_or (λ (attempt : Try). unmasked (plan_of_trial keep ranges attempt.checkpoint attempt.env episode.point)) o ranges) count
        ≡ env_at base (option_map_or (λ (attempt : Try). plan_of_trial keep plan attempt.checkpoint attempt.env episode.point) o plan) count
    of None count = same count
    of (Some attempt) count = one_more base plan ranges (record { low = cond (eqb attempt.checkpoint 0) 0 (attempt.checkpoint + 1); until = episode.point + keep; env = attempt.env }) same count

exact_from : (base : Env) (keep : ℕ) (plan ranges : List Override) (episodes : List Episode) → ((count : ℕ) → env_at base ranges count ≡ env_at base plan count) → (count : ℕ) → env_at base (ranges_from keep ranges episodes) count ≡ env_at base (plan_from keep plan episodes) count
exact_from base keep plan ranges [] same = same
exact_from base keep plan ranges (episode ∷ episodes) same = exact_from base keep (plan_behind keep plan episode) (ranges_behind keep ranges episode) episodes (exact_behind base keep plan ranges episode same)

pub ranges_are_exact : RangesAreExact
ranges_are_exact base keep episodes count = exact_from base keep [] [] episodes (λ count. refl) count

-- those that begin before a count do
before_begins : (low : ℕ) (plan : List Override) → BeginBefore low (before low plan)
before_begins low [] = tt
before_begins low (override ∷ plan) = of (ltb override.low low) refl (before_begins low plan)
  where
    of : (b : Bool) → ltb override.low low ≡ b → BeginBefore low (before low plan) → BeginBefore low (cond b (override ∷ before low plan) (before low plan))
    of true is rest = (ltb-true override.low low is, rest)
    of false is rest = rest

-- some of those that begin before a count do
some_begin : (low other : ℕ) (plan : List Override) → BeginBefore other plan → BeginBefore other (before low plan)
some_begin low other [] are = tt
some_begin low other (override ∷ plan) are = of (ltb override.low low) (some_begin low other plan are.1)
  where
    of : (b : Bool) → BeginBefore other (before low plan) → BeginBefore other (cond b (override ∷ before low plan) (before low plan))
    of true rest = (are.0, rest)
    of false rest = rest

some_fall : (low : ℕ) (plan : List Override) → AreFalling plan → AreFalling (before low plan)
some_fall low [] are = tt
some_fall low (override ∷ plan) are = of (ltb override.low low) (some_fall low plan are.1)
  where
    of : (b : Bool) → AreFalling (before low plan) → AreFalling (cond b (override ∷ before low plan) (before low plan))
    of true rest = (some_begin low override.low plan are.0, rest)
    of false rest = rest

fall_behind : (keep : ℕ) (ranges : List Override) (episode : Episode) → AreFalling ranges → AreFalling (ranges_behind keep ranges episode)
fall_behind keep ranges episode are = of (adopted_try episode.tries)
  where
    of : (o : Option Try) → AreFalling (option_map_or (λ (attempt : Try). unmasked (plan_of_trial keep ranges attempt.checkpoint attempt.env episode.point)) o ranges)
    of None = are
    of (Some attempt) =
        let low : ℕ = cond (eqb attempt.checkpoint 0) 0 (attempt.checkpoint + 1) in
        (before_begins low ranges, some_fall low ranges are)

fall_from : (keep : ℕ) (ranges : List Override) (episodes : List Episode) → AreFalling ranges → AreFalling (ranges_from keep ranges episodes)
fall_from keep ranges [] are = are
fall_from keep ranges (episode ∷ episodes) are = fall_from keep (ranges_behind keep ranges episode) episodes (fall_behind keep ranges episode are)

pub ranges_fall : RangesFall
ranges_fall keep episodes = fall_from keep [] episodes tt
