-- A run that has reached what was handed over stays there, and is released at one place.
use Rattle.run_history.proofs.Runs.{allocated_keeps, received_keeps}
use Rattle.session_history.proofs.Growing.{ByChoice, ByEnd, ByItem, ByItself, BySend, Moved, moved}
use Rattle.follow.proofs.Terms.{List, None, Option, Some, [], append-nil, arith, length, refl, subst, ◌∷◌, ◌≡◌, ◌≤◌, IfSome_then, slice_get_within, last_or, slice_get, Item, LinkEvent, Choice, Image, prefix_trans, repeated_keeps, serves_to, State, after, does, output, AsksFor, Limits, Override, Path, Served, env_at, origin, planned_next, items_in, received, Rules, Before, Behind, Compared, Equal, compare, later_served, later_steps, start_taken, asks_on, plan_of, AtRequest, Handed, HasReached, Stand, AsksForMore, HasFollowed, heard_alone, OneRelease, StaysReached}
use Rattle.follow.proofs.Past.{past_on}
use Rattle.follow.proofs.Runs.{is_longer, same_limits}
use Rattle.follow.proofs.Reached.{front_length}

pub stays_reached : StaysReached
stays_reached limits items handed path later stand next reached served =
    let longer = is_longer limits items (plan_of limits.keep handed.episodes) path later served in
    record {
      past = IfSome_then (last_or None handed.episodes) reached.past (λ episode past. past_on limits limits items (plan_of limits.keep handed.episodes) path later episode stand next (same_limits limits) past served);
      chose = prefix_trans handed.choices path.choices later.choices reached.chose longer.choices;
      finished = IfSome_then handed.finish reached.finished (λ finish few. omega (arith, few, longer.steps));
      covers = λ conn. omega (arith, reached.covers conn, front_length (output path.state conn) (output later.state conn) (longer.outputs conn));
    }

-- one instruction takes no item but the one that is there
after_within : (s t : State) (items : List Item) (choice : Option Choice) → after s (does (slice_get items s.machine.taken) choice s.machine) ≡ Some t → s.machine.taken ≤ length items → t.machine.taken ≤ length items
after_within s t items choice goes low = by (moved s t (slice_get items s.machine.taken) choice goes)
  where
    within : (u : State) → u ≡ t → u.machine.taken ≤ length items → t.machine.taken ≤ length items
    within u is few = subst (λ (v : State). v.machine.taken ≤ length items) is few

    by : Moved s t (slice_get items s.machine.taken) choice → t.machine.taken ≤ length items
    by (ByItself m alone is) = within _ is (omega (arith, low, alone.taken))
    by (BySend conn bytes m alone is) = within _ is (omega (arith, low, alone.0.taken))
    by (ByEnd code is) = within _ is low
    by (ByItem it there is) = within _ is (omega (arith, slice_get_within items s.machine.taken it there, (received_keeps it s.machine).taken))
    by (ByChoice ask it there may is) = within _ is (omega (arith, low, (allocated_keeps it s.machine).taken))

-- so does a run
pub taken_within : (limits : Limits) (items : List Item) (plan : List Override) (first second : Path) → Served limits items plan first second → first.state.machine.taken ≤ length items → second.state.machine.taken ≤ length items
taken_within limits items plan first second served =
    repeated_keeps (planned_next limits items plan) (λ a b. a.state.machine.taken ≤ length items → b.state.machine.taken ≤ length items) (λ a low. low) (λ a b c one other low. other (one low))
    (λ a b goes low. let parts = serves_to limits items (env_at limits.base plan a.state.machine.taken) a b goes in after_within a.state b.state items parts.given.chosen parts.goes low) served.more first second served.ran

-- where a host was released its run asks for no more
none_more : (rules : Rules) (image : Image) (handed : Handed) (events : List LinkEvent) (released : Path) → HasFollowed rules image handed events released → AsksForMore rules image handed events → ⊥
none_more rules image handed events released followed asked =
    of_compared (compare rules.limits (items_in rules.bounds (heard_alone events)) (plan_of rules.limits.keep handed.episodes) (origin image) asked.path released asked.ran followed.ran)
  where
    of_compared : Compared rules.limits (items_in rules.bounds (heard_alone events)) (plan_of rules.limits.keep handed.episodes) asked.path released → ⊥
    of_compared (Equal same) =
        subst (λ (p : Path). (stand : Stand rules.limits (plan_of rules.limits.keep handed.episodes) p) → ¬ HasReached rules.limits handed p stand) same asked.not_yet followed.stand followed.reached
    of_compared (Before later) =
        let items : List Item = items_in rules.bounds (heard_alone events) in
        let few = taken_within rules.limits items (plan_of rules.limits.keep handed.episodes) (origin image) released followed.ran (omega (arith, start_taken image (origin image) refl)) in
        let most = asks_on rules.limits items (plan_of rules.limits.keep handed.episodes) asked.path released (received rules.bounds (heard_alone events)) asked.asks later in
        omega (arith, few, most)
    of_compared (Behind later) =
        let asks : AsksFor rules.limits (plan_of rules.limits.keep handed.episodes) asked.path asked.path.state.machine.taken = record { lives = asked.asks.lives; taken = refl; asks = asked.asks.asks } in
        asked.not_yet (AtRequest asks)
        (stays_reached rules.limits (items_in rules.bounds (heard_alone events)) handed released asked.path followed.stand (AtRequest asks) followed.reached
        (later_served rules.limits (items_in rules.bounds (heard_alone events)) (plan_of rules.limits.keep handed.episodes) released asked.path later))

-- with the same events it was released at one place
same_place : (rules : Rules) (image : Image) (handed : Handed) (events : List LinkEvent) (released other : Path) → HasFollowed rules image handed events released → HasFollowed rules image handed events other → released ≡ other
same_place rules image handed events released other one two =
    of_compared (compare rules.limits (items_in rules.bounds (heard_alone events)) (plan_of rules.limits.keep handed.episodes) (origin image) released other one.ran two.ran)
  where
    of_compared : Compared rules.limits (items_in rules.bounds (heard_alone events)) (plan_of rules.limits.keep handed.episodes) released other → released ≡ other
    of_compared (Equal same) = same
    of_compared (Before later) =
        absurd (two.first released one.stand one.ran (later_steps rules.limits (items_in rules.bounds (heard_alone events)) (plan_of rules.limits.keep handed.episodes) released other later) one.reached)
    of_compared (Behind later) =
        absurd (one.first other two.stand two.ran (later_steps rules.limits (items_in rules.bounds (heard_alone events)) (plan_of rules.limits.keep handed.episodes) other released later) two.reached)

pub one_release : OneRelease
one_release rules image handed events [] released other one two =
    (refl, same_place rules image handed events released other one (subst (λ (es : List LinkEvent). HasFollowed rules image handed es other) (append-nil events) two))
one_release rules image handed events (event ∷ back) released other one two = absurd (none_more rules image handed events released one (two.asked events back event refl))
