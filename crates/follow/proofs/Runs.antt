-- A run under wider limits, and two runs under one plan.
use Rattle.run_history.specs.Touching.{Range, touched}
use Rattle.trials.proofs.Agreeing.{output_on}
use Rattle.follow.proofs.Terms.{Bool, List, None, Option, Some, ap, arith, cond, false, inl, inr, leb, not, refl, subst, sym, true, ◌<◌, ◌∙◌, ◌≡◌, ◌⊎◌, leb-false, lt-leb, not-false, is_some, option_map, slice_get, Item, Prefix, Heap, Env, BadAccess, Hang, prefix_same, prefix_trans, repeated_as, repeated_keeps, serves_to, Effect, Fails, Wants, after, Guest, Limits, Override, Path, Served, does_with, env_at, grant, guest_of, is_refused, listed, longer, origin, planned_next, served_next, serves, served_grows, served_same, served_with, Before, Behind, Compared, Equal, compare, later_served, steps_later, taken_later, AreWider, IsLonger, AsksWider, OneRun, ServedWider}

-- what one rule permits, a wider one does
refused_wider : (limits wider : Limits) (heap : Heap) (range : Option Range) → AreWider limits wider → is_refused limits heap range ≡ false → is_refused wider heap range ≡ false
refused_wider limits wider heap None are none = refl
refused_wider limits wider heap (Some range) are none = ap not (are.permits heap range.at range.count (not-false (limits.permits heap range.at range.count) none))

-- an instruction that is early enough, and touches what it may, does the same
serves_wider : (limits wider : Limits) (env : Env) (item : Option Item) (guest : Guest) → AreWider limits wider → guest.machine.since < limits.budget → is_refused limits guest.heap (touched guest.machine) ≡ false
    → serves wider env item guest ≡ does_with (grant env guest) item guest.machine
unfolding serves
serves_wider limits wider env item guest are early kept =
    ap (λ (late : Bool). cond late (Fails Hang) (cond (is_refused wider guest.heap (touched guest.machine)) (Fails BadAccess) (does_with (grant env guest) item guest.machine)))
    (lt-leb wider.budget guest.machine.since (omega (arith, early, are.budget)))
    ∙ ap (λ (refused : Bool). cond refused (Fails BadAccess) (does_with (grant env guest) item guest.machine)) (refused_wider limits wider guest.heap (touched guest.machine) are kept)

pub same_limits : (limits : Limits) → AreWider limits limits
same_limits limits = record { budget = omega arith; permits = λ heap at count may. may; keep = refl; base = refl }

-- so is an instruction of a served run
next_wider : (limits wider : Limits) (items : List Item) (env : Env) (path to : Path) → AreWider limits wider → served_next limits items env path ≡ Some to → served_next wider items env path ≡ Some to
unfolding served_next
next_wider limits wider items env path to are goes =
    let parts = serves_to limits items env path to goes in
    let item = slice_get items path.state.machine.taken in
    ap (λ (e : Effect). cond (is_some path.state.ended) None (option_map (longer path (grant env (guest_of path))) (after path.state e)))
    (serves_wider limits wider env item (guest_of path) are parts.early parts.kept_rule ∙ sym (serves_wider limits limits env item (guest_of path) (same_limits limits) parts.early parts.kept_rule))
    ∙ goes

pub served_wider : ServedWider
served_wider limits wider items plan first second are served = record {
  more = served.more;
  ran =
      repeated_as (planned_next limits items plan) (planned_next wider items plan)
      (λ now to goes. ap (λ (base : Env). served_next wider items (env_at base plan now.state.machine.taken) now) are.base ∙ next_wider limits wider items (env_at limits.base plan now.state.machine.taken) now to are goes) served.more first second served.ran;
}

-- a guest that asks for an item does so early enough, and where it may
record InRule (limits : Limits) (guest : Guest) : Type 0 where
  early : guest.machine.since < limits.budget
  kept_rule : is_refused limits guest.heap (touched guest.machine) ≡ false

in_rule : (limits : Limits) (env : Env) (guest : Guest) → serves limits env None guest ≡ Wants → InRule limits guest
unfolding serves
in_rule limits env guest asks = of_late (leb limits.budget guest.machine.since) (is_refused limits guest.heap (touched guest.machine)) refl refl asks
  where
    of_late : (late refused : Bool) → leb limits.budget guest.machine.since ≡ late → is_refused limits guest.heap (touched guest.machine) ≡ refused
        → cond late (Fails Hang) (cond refused (Fails BadAccess) (does_with (grant env guest) None guest.machine)) ≡ Wants → InRule limits guest
    of_late true refused is kept h = absurd (cc)
    of_late false true is kept h = absurd (cc)
    of_late false false is kept h = record { early = leb-false limits.budget guest.machine.since is; kept_rule = kept }

pub asks_wider : AsksWider
asks_wider limits wider plan path item are asks =
    let env = env_at limits.base plan path.state.machine.taken in
    let within = in_rule limits env (guest_of path) asks.asks in
    record {
      lives = asks.lives;
      taken = asks.taken;
      asks =
          ap (λ (base : Env). serves wider (env_at base plan path.state.machine.taken) None (guest_of path)) are.base
          ∙ serves_wider limits wider env None (guest_of path) are within.early within.kept_rule
          ∙ sym (serves_wider limits limits env None (guest_of path) (same_limits limits) within.early within.kept_rule)
          ∙ asks.asks;
    }

-- one instruction keeps the answers
pub choices_later : (limits : Limits) (items : List Item) (plan : List Override) (first second : Path) → Served limits items plan first second → Prefix first.choices second.choices
choices_later limits items plan first second served =
    repeated_keeps (planned_next limits items plan) (λ a b. Prefix a.choices b.choices) (λ a. prefix_same a.choices) (λ a b c one other. prefix_trans a.choices b.choices c.choices one other)
    (λ a b goes. let parts = serves_to limits items (env_at limits.base plan a.state.machine.taken) a b goes in (listed parts.given.chosen, sym parts.choices)) served.more first second served.ran

pub is_longer : (limits : Limits) (items : List Item) (plan : List Override) (first second : Path) → Served limits items plan first second → IsLonger limits items plan first second
is_longer limits items plan first second served = record {
  served = served;
  steps = steps_later limits items plan first second served;
  taken = taken_later limits items plan first second served;
  choices = choices_later limits items plan first second served;
  outputs = λ conn. output_on first.state second.state conn (served_grows limits items plan first second served);
}

-- a run on some first items is one on all of them
pub served_all : (limits : Limits) (items all : List Item) (plan : List Override) (first second : Path) → Prefix items all → Served limits items plan first second → Served limits all plan first second
served_all limits items all plan first second front served = subst (λ (its : List Item). Served limits its plan first second) front.1 (served_with limits items front.0 plan first second served)

of_compared : (limits : Limits) (items : List Item) (plan : List Override) (first second : Path) → Compared limits items plan first second → IsLonger limits items plan first second ⊎ IsLonger limits items plan second first
of_compared limits items plan first second (Equal same) = inl (subst (λ (p : Path). IsLonger limits items plan first p) same (is_longer limits items plan first first (served_same limits items plan first)))
of_compared limits items plan first second (Before later) = inl (is_longer limits items plan first second (later_served limits items plan first second later))
of_compared limits items plan first second (Behind later) = inr (is_longer limits items plan second first (later_served limits items plan second first later))

pub one_run : OneRun
one_run limits wider items others all plan image first second are front other_front one other =
    of_compared wider all plan first second
    (compare wider all plan (origin image) first second (served_all wider items all plan (origin image) first front (served_wider limits wider items plan (origin image) first are one))
    (served_all wider others all plan (origin image) second other_front other))
