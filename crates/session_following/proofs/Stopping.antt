-- Why a session that follows stops before it is released: it is judged where it stands, or its link is heard in vain.
use Rattle.rx_base.specs.declared.item.TheConstants.{MAX_ITEMS}
use Rattle.item_log.specs.Log as logs
use Rattle.rx_base.proofs.Budgets.{few_in_all}
use Rattle.link_gate.specs.declared.heard.HearFault.TheVariants as fault
use Rattle.session_history.specs.Heeding as unheeded
use Rattle.session_state.proofs.guest.ChoiceLemmas.{few_choices}
use Rattle.session_following.proofs.Terms.{Bool, List, Option, [], ap, append-nil, arith, inl, inr, length, refl, subst, sym, true, ℕ, ◌++◌, ◌+◌, ◌<◌, ◌∙◌, ◌∷◌, ◌≡◌, ◌≤◌, ◌⊎◌, length-replicate, Err, IsSome, replicate, ◌^◌, ◌≢◌, Item, LinkEvent, Coming, Tells, Told, events_in, Seen, Log, Ledger, Image, Cause, AsksFor, FailsBy, Path, Stop, events_alone, events_of, items_in, refusal, Rules, HearFault, ComesLast, HearsBy, Noted, apart_asks_fails, apart_ended, heard_alone, AtExit, AtFailure, AtRequest, Handed, IsStuck, Stand, AreWellPlaced, plan_of, taken_all, IsStopAt, SessionState, StandKind, rules_following, EndsEarly, IsInPlace, IsShort, IsUnlike, NoPlan, OtherAnswer, OtherPlace, Agree, IsJudgedAt, kind_of, HasEndedBehind, HasEndedThere, IsUnfollowedBy, Follows, WaitsOn, held_back}
use Rattle.session_following.specs.declared.judging.StandKind.TheVariants as stands
use Rattle.session_following.specs.declared.unfollowed.Unfollowed.TheVariants as unfollowed
use Rattle.session_following.proofs.Waiting.{asks_more, tells_none, tells_one}

-- what came behind the events that were heard, and why the session stops then
pub record StopsFor (rules : Rules) (image : Image) (handed : Handed) (told : Told) (seen : Seen) (events : List LinkEvent) (now : Path) (stopped : Stop) : Type 0 where
  pub last : List LinkEvent
  pub heard : Tells told seen.told (heard_alone (events ++ last))
  pub cause : IsUnfollowedBy rules image handed seen.coming events last now (unfollowed.Stops stopped)

-- an event is refused as one behind those that were heard
refused_same : (rules : Rules) (handed : Handed) (events : List LinkEvent) (now : Path) (e : LinkEvent) → rules.bounds.before ≡ unheeded.nothing_before
    → refusal (rules_following (held_back rules) handed events now).bounds (events_of (rules_following (held_back rules) handed events now).bounds []) e ≡ refusal rules.bounds (events_of rules.bounds (heard_alone events)) e
refused_same rules handed events now e alone = ap (λ (all : List LinkEvent). refusal rules.bounds all e) (append-nil (events_in (heard_alone events)) ∙ sym (events_alone rules.bounds (heard_alone events) alone))

module _ {R : Type 0} where
  -- by the fault
  pub stops_on : {rules here : Rules} {image : Image} {handed : Handed} {told : Told} {was seen : Seen} {before noted : Noted} {missing : List ℕ} {session : SessionState R} (log : Log) (ledger : Ledger) (count : ℕ) (why : HearFault) (stopped : Stop) (w : WaitsOn rules here image handed told was before noted missing session)
      → logs.received session.log ≤ session.taken → HearsBy (rules_following (held_back rules) handed w.asking.stands.events w.asking.stands.now).bounds [] w.asking.stands.now.state.sends log ledger count was seen (Err why) → ComesLast seen.coming (Err why) → IsStopAt why stopped
      → StopsFor rules image handed told seen w.asking.stands.events w.asking.stands.now stopped
  stops_on {rules = rules} {image = image} {handed = handed} {told = told} {was = was} {seen = seen} log ledger count (fault.Refused kind offset) stopped w none_left h comes is =
      subst (StopsFor rules image handed told seen w.asking.stands.events w.asking.stands.now) (sym is)
      (record { last = []; heard = tells_none w.asking.stands.events w.asking.stands.heard h.0; cause = (refl, asks_more w.asking.stands.alone w none_left, comes) })
  stops_on {rules = rules} {image = image} {handed = handed} {told = told} {was = was} {seen = seen} log ledger count fault.LimitEvents stopped w none_left h comes is =
      subst (StopsFor rules image handed told seen w.asking.stands.events w.asking.stands.now) (sym is)
      (record { last = h.0 ∷ []; heard = tells_one w.asking.stands.events h.0 w.asking.stands.heard h.1; cause = record { asked = asks_more w.asking.stands.alone w none_left; event = h.0; only = refl; no_end = h.2.no_end; refused = sym (refused_same rules handed w.asking.stands.events w.asking.stands.now h.0 w.asking.stands.alone) ∙ h.2.refused } })
  stops_on {rules = rules} {image = image} {handed = handed} {told = told} {was = was} {seen = seen} log ledger count (fault.TooLong conn) stopped w none_left h comes is =
      subst (StopsFor rules image handed told seen w.asking.stands.events w.asking.stands.now) (sym is)
      (record { last = h.0 ∷ []; heard = tells_one w.asking.stands.events h.0 w.asking.stands.heard h.1; cause = (record { asked = asks_more w.asking.stands.alone w none_left; event = h.0; only = refl; no_end = h.2.no_end; refused = sym (refused_same rules handed w.asking.stands.events w.asking.stands.now h.0 w.asking.stands.alone) ∙ h.2.refused }, h.3) })
  stops_on {rules = rules} {image = image} {handed = handed} {told = told} {was = was} {seen = seen} log ledger count fault.LimitItems stopped w none_left h comes is =
      subst (StopsFor rules image handed told seen w.asking.stands.events w.asking.stands.now) (sym is)
      (record { last = h.0 ∷ []; heard = tells_one w.asking.stands.events h.0 w.asking.stands.heard h.1; cause = record { asked = asks_more w.asking.stands.alone w none_left; event = h.0; only = refl; no_end = h.2.no_end; refused = sym (refused_same rules handed w.asking.stands.events w.asking.stands.now h.0 w.asking.stands.alone) ∙ h.2.refused } })
  stops_on {rules = rules} {image = image} {handed = handed} {told = told} {was = was} {seen = seen} log ledger count fault.ReadFault stopped w none_left h comes is =
      subst (StopsFor rules image handed told seen w.asking.stands.events w.asking.stands.now) (sym is)
      (record { last = []; heard = tells_none w.asking.stands.events w.asking.stands.heard h.0; cause = (refl, asks_more w.asking.stands.alone w none_left) })
  stops_on {rules = rules} {image = image} {handed = handed} {told = told} {was = was} {seen = seen} log ledger count fault.Memory stopped w none_left h comes is =
      subst (StopsFor rules image handed told seen w.asking.stands.events w.asking.stands.now) (sym is)
      (elim h [
        | inl none ↦ record { last = []; heard = tells_none w.asking.stands.events w.asking.stands.heard none; cause = inl refl }
        | inr some ↦ record {
          last = some.0 ∷ [];
          heard = tells_one w.asking.stands.events some.0 w.asking.stands.heard some.1;
          cause = inr (record { asked = asks_more w.asking.stands.alone w none_left; event = some.0; only = refl; allowed = sym (refused_same rules handed w.asking.stands.events w.asking.stands.now some.0 w.asking.stands.alone) ∙ some.2.allowed });
        }
      ])

module _ {R : Type 0} where
  -- where a run that follows stands is judged by the counts of its session
  pub judged_at : {rules here : Rules} {image : Image} {handed : Handed} {told : Told} {seen : Seen} {before noted : Noted} {missing : List ℕ} {session : SessionState R} {kind : StandKind} {stuck : Bool} (items : List Item) (s : Follows rules here image handed told seen before noted missing session)
      (stand : Stand rules.limits (plan_of rules.limits.keep handed.episodes) s.now) → kind_of stand ≡ kind → (stuck ≡ true → IsStuck items stand) → (kind ≢ stands.Request → stuck ≡ true) → IsJudgedAt rules.limits items handed s.now stand missing kind session.taken session.steps (session.recorded + length session.choices) stuck
  judged_at {session = session} items s stand kind_is stuck at_end =
      let a = s.follows.stands.answers in
      record {
        kind_is = kind_is;
        taken_are = sym a.taken;
        steps_are = sym a.steps;
        chosen_are = let count = taken_all session.recorded s.now.choices a.choices a.low in omega (arith, count);
        missing_are = s.missing_are;
        agree = s.agree;
        is_stuck = stuck;
        at_end = at_end;
      }

  pub chosen_of : {rules here : Rules} {image : Image} {handed : Handed} {told : Told} {seen : Seen} {before noted : Noted} {missing : List ℕ} {session : SessionState R} (s : Follows rules here image handed told seen before noted missing session) → length s.now.choices ≡ session.recorded + length session.choices
  chosen_of {session = session} s =
      let a = s.follows.stands.answers in
      let count = taken_all session.recorded s.now.choices a.choices a.low in
      omega (arith, count)

  -- and its answers of the allocator are no more than its instructions
  pub few_chosen : {rules here : Rules} {image : Image} {handed : Handed} {told : Told} {seen : Seen} {before noted : Noted} {missing : List ℕ} {session : SessionState R} → Follows rules here image handed told seen before noted missing session → session.recorded + length session.choices ≤ session.steps
  few_chosen {image = image} {session = session} s =
      let a = s.follows.stands.answers in
      let all = few_choices image s.follows.stands.sound.carries.served in
      let count = taken_all session.recorded s.now.choices a.choices a.low in
      let steps = a.steps in
      omega (arith, all, count, steps)

module _ {R : Type 0} where
  -- so their number fits
  pub chosen_fits : {rules here : Rules} {image : Image} {handed : Handed} {told : Told} {seen : Seen} {before noted : Noted} {missing : List ℕ} {session : SessionState R} → here.limits.budget ≤ 2 ^ 36 → here.bounds.max_items ≤ MAX_ITEMS → Follows rules here image handed told seen before noted missing session
      → session.recorded + length session.choices < 18446744073709551616
  chosen_fits {rules = rules} {here = here} few_budget few_items s =
      let now : Path = s.now in
      let budget : here.limits.budget ≡ rules.limits.budget = ap (λ (r : Rules). r.limits.budget) s.here_is in
      let items : here.bounds.max_items ≡ rules.bounds.max_items = ap (λ (r : Rules). r.bounds.max_items) s.here_is in
      let most = s.follows.stands.goes.few in
      let few : now.state.machine.taken ≤ MAX_ITEMS = omega (arith, most, items, few_items) in
      let product = few_in_all now.state.machine.taken rules.limits.budget few (omega (arith, budget, few_budget)) in
      let since = s.follows.stands.goes.bounded.since in
      let steps = s.follows.stands.goes.bounded.steps in
      omega (arith, few_chosen s, s.follows.stands.answers.steps, since, steps, product, budget, few_budget)

-- more items than a run takes
abbrev pub enough : ℕ → List Item
enough n = replicate (n + 1) (record { conn = 0; kind = 0; bytes = [] })

-- a run that stands somewhere, by what is known of the stand
module _ (rules : Rules) (image : Image) (handed : Handed) (coming : Option Coming) (events last : List LinkEvent) (now : Path) where
  -- how the link stands wherever the run stands
  abbrev pub EndsWell : Type 0
  EndsWell = (stand : Stand rules.limits (plan_of rules.limits.keep handed.episodes) now) → HasEndedThere rules image handed coming events last stand

  pub ends_behind : AsksFor rules.limits (plan_of rules.limits.keep handed.episodes) now now.state.machine.taken → HasEndedBehind rules image handed coming events last → EndsWell
  ends_behind asks ended (AtRequest other) = ended
  ends_behind asks ended (AtExit exits) = absurd (apart_ended now asks.lives exits)
  ends_behind asks ended (AtFailure cause fails) = absurd (apart_asks_fails rules.limits (plan_of rules.limits.keep handed.episodes) now now.state.machine.taken cause asks fails)

  pub ends_at_exit : IsSome now.state.ended → last ≡ [] → EndsWell
  ends_at_exit exits none (AtRequest asks) = absurd (apart_ended now asks.lives exits)
  ends_at_exit exits none (AtExit other) = none
  ends_at_exit exits none (AtFailure cause fails) = none

  pub ends_at_failure : (cause : Cause) → FailsBy rules.limits (plan_of rules.limits.keep handed.episodes) now cause → last ≡ [] → EndsWell
  ends_at_failure cause fails none (AtRequest asks) = absurd (apart_asks_fails rules.limits (plan_of rules.limits.keep handed.episodes) now now.state.machine.taken cause asks fails)
  ends_at_failure cause fails none (AtExit other) = none
  ends_at_failure cause fails none (AtFailure another others) = none

  -- it isn't that of record and report, or is short
  pub unlike_there : {items : List Item} {step : ℕ} → AreWellPlaced handed.episodes → items ≡ items_in rules.bounds (heard_alone events) → Agree handed.choices now.choices → (last ≡ []) ⊎ HasEndedBehind rules image handed coming events last → EndsWell → now.steps ≡ step → IsUnlike rules.limits items handed now
      → IsUnfollowedBy rules image handed coming events last now (unfollowed.Mismatch step)
  unlike_there placed same agree came ends steps (NoPlan unplaced) = absurd (unplaced placed)
  unlike_there placed same agree came ends steps (OtherAnswer one other) = absurd (elim agree [
    | inl front ↦ one front
    | inr front ↦ other front
  ])
  unlike_there placed same agree came ends steps (OtherPlace finish stand is late apart never) = (OtherPlace finish stand is late apart never, (came, steps))
  unlike_there placed same agree came ends steps (EndsEarly stand stuck less) = (EndsEarly stand (subst (λ (its : List Item). IsStuck its stand) same stuck) less, (ends stand, steps))

  pub short_there : {conn : ℕ} → (last ≡ []) ⊎ HasEndedBehind rules image handed coming events last → EndsWell → IsShort rules.limits (items_in rules.bounds (heard_alone events)) handed now conn × IsInPlace handed now → IsUnfollowedBy rules image handed coming events last now (unfollowed.Short conn)
  short_there came ends (short, place) = (short, (came, inl (ends short.stand), place))

-- a run that stands at its request, and isn't stuck there
module _ (rules : Rules) (image : Image) (handed : Handed) (coming : Option Coming) (events : List LinkEvent) (now : Path) (asks : AsksFor rules.limits (plan_of rules.limits.keep handed.episodes) now now.state.machine.taken) where
  not_stuck : (stand : Stand rules.limits (plan_of rules.limits.keep handed.episodes) now) → IsStuck (enough now.state.machine.taken) stand → ⊥
  not_stuck (AtRequest other) stuck = let many : length (enough now.state.machine.taken) ≡ now.state.machine.taken + 1 = length-replicate (now.state.machine.taken + 1) (record { conn = 0; kind = 0; bytes = [] }) in omega (arith, stuck, many)
  not_stuck (AtExit exits) stuck = apart_ended now asks.lives exits
  not_stuck (AtFailure cause fails) stuck = apart_asks_fails rules.limits (plan_of rules.limits.keep handed.episodes) now now.state.machine.taken cause asks fails

  pub unlike_here : {step : ℕ} → AreWellPlaced handed.episodes → Agree handed.choices now.choices → now.steps ≡ step → IsUnlike rules.limits (enough now.state.machine.taken) handed now → IsUnfollowedBy rules image handed coming events [] now (unfollowed.Mismatch step)
  unlike_here placed agree steps (NoPlan unplaced) = absurd (unplaced placed)
  unlike_here placed agree steps (OtherAnswer one other) = absurd (elim agree [
    | inl front ↦ one front
    | inr front ↦ other front
  ])
  unlike_here placed agree steps (OtherPlace finish stand is late apart never) = (OtherPlace finish stand is late apart never, (inl refl, steps))
  unlike_here placed agree steps (EndsEarly stand stuck less) = absurd (not_stuck stand stuck)

  pub short_here : {conn : ℕ} → IsShort rules.limits (enough now.state.machine.taken) handed now conn × IsInPlace handed now → IsUnfollowedBy rules image handed coming events [] now (unfollowed.Short conn)
  short_here (short, place) =
      elim short.last [
        | inl stuck ↦ absurd (not_stuck short.stand stuck)
        | inr there ↦ (record { stand = short.stand; last = inr there; files = short.files; more = short.more; first = short.first }, (inl refl, inr there, place))
      ]
