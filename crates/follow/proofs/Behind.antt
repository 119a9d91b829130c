-- What a host followed is a sound part before the session behind it.
use Rattle.session_history.proofs.Heeding.{events_alone, heeded-alike, items_in-alike}
use Rattle.follow.proofs.Terms.{List, None, [], append-nil, arith, length, refl, subst, sym, ◌∙◌, ◌≡◌, ◌≤◌, IfSome_then, last_or, Item, Send, LinkEvent, events_in, Path, Served, origin, in_order_wider, events_of, items_in, nothing_before, Rules, AreInOrder, Covers, IsFeasible, passed_in, start_taken, timed_from, plan_of, held, Handed, heard_alone, rules_behind, FollowedIsPast, FollowedIsSound}
use Rattle.follow.proofs.Fronts.{held_is_in_time}
use Rattle.follow.proofs.Stamps.{held_is_in_order}
use Rattle.follow.proofs.Released.{taken_within}

-- the session behind has all events that were followed before it
module _ (rules : Rules) (handed : Handed) (events : List LinkEvent) (released : Path) where
  abbrev next : Rules
  next = rules_behind rules handed events released

  same_events : rules.bounds.before ≡ nothing_before → events_of next.bounds [] ≡ events_of rules.bounds (heard_alone events)
  same_events alone = append-nil (events_in (heard_alone events)) ∙ sym (events_alone rules.bounds (heard_alone events) alone)

  -- what clients hold was passed, and nothing else yet
  only_held : passed_in next.bounds [] ≡ held handed.counts released.state.sends
  only_held = append-nil (held handed.counts released.state.sends)

pub followed_is_sound : FollowedIsSound
followed_is_sound rules image handed events released alone heeds followed =
    let items : List Item = items_in rules.bounds (heard_alone events) in
    let pieces : List Send = held handed.counts released.state.sends in
    let whole = same_events rules handed events released alone in
    let same = items_in-alike rules.bounds (rules_behind rules handed events released).bounds.before (heard_alone events) [] whole in
    let passed = only_held rules handed events released in
    let in_time = held_is_in_time handed.counts released.state in
    let few = taken_within rules.limits items (plan_of rules.limits.keep handed.episodes) (origin image) released followed.ran (omega (arith, start_taken image (origin image) refl)) in
    record {
      heeded = heeded-alike rules.bounds (rules_behind rules handed events released).bounds.before (heard_alone events) [] whole ∙ heeds ∙ sym whole;
      carries =
          record {
            served = subst (λ (its : List Item). Served rules.limits its (plan_of rules.limits.keep handed.episodes) (origin image) released) (sym same) followed.ran;
            taken = subst (λ (its : List Item). released.state.machine.taken ≤ length its) (sym same) few;
            covers = subst (λ (sends : List Send). Covers sends released.state) (sym passed) in_time.0;
            feasible = subst (λ (sends : List Send). IsFeasible sends released.state) (sym passed) in_time.1;
            ordered =
                subst (λ (its : List Item). AreInOrder (length its) (passed_in (rules_behind rules handed events released).bounds [])) (sym same)
                (subst (AreInOrder (length items)) (sym passed)
                (in_order_wider released.state.machine.taken (length items) pieces few (held_is_in_order rules.limits items (plan_of rules.limits.keep handed.episodes) image released handed.counts followed.ran)));
            timed = timed_from rules.limits items (plan_of rules.limits.keep handed.episodes) image released followed.ran;
          };
    }

pub followed_is_past : FollowedIsPast
followed_is_past rules image handed events released followed = IfSome_then (last_or None handed.episodes) followed.reached.past (λ episode past. (followed.stand, past))
