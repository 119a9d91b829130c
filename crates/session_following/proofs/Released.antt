-- Where a session that follows is released: the environment of the report that is in force then; and a release at an exit of its guest.
use Rattle.session_history.specs.declared.ends.SessionEnd.TheVariants as session_end
use Rattle.session_history.specs.declared.ends.Stop.TheVariants as stop
use Rattle.session_state.proofs.recovering.TableLemmas.{tables_here, told_unwatched}
use Rattle.session_following.proofs.Terms.{Bool, List, None, Some, [], ap, append-nil, arith, cond, inl, inr, ltb, refl, subst, sym, ℕ, ◌+◌, ◌<◌, ◌∙◌, ◌∷◌, ◌≡◌, ◌≤◌, ◌⊎◌, cases_lt, le-ltb, IsSome, Item, Send, LinkEvent, Grew, events_in, Seen, Env, Ledger, Image, AsksFor, Override, Path, Served, env_at, origin, GoesOn, IsSilent, standing_of, Writes, served_on, Before, events_of, items_in, nothing_before, KeepsItems, KeepsReplies, Rules, timed_from, HasFollowed, heard_alone, rules_behind, AtExit, Handed, HasReached, held, plan_of, IsInForce, TellsMore, answers_for, none_lost, none_noted, received_is, HasSameSide, saved_on, requests_on, keeping_of, AreTables, IsCounted, SessionState, EndsWithin, IsEnding, IsTold, Since, came_before, plan_up_to, begun_story, IsFollowing, rules_following}
use Rattle.session_following.proofs.Based.{SaysAs, items_after, replies_after}
use Rattle.session_following.proofs.Following.{items_following, whole_following}
use Rattle.session_following.proofs.Handled.{handled_after}
use Rattle.session_following.proofs.PlanLemmas.{goes_to, says_alike, up_to_same}
use Rattle.session_following.proofs.Reaching.{not_on}
use Rattle.session_following.proofs.Rebased.{just_told}
use Rattle.session_following.proofs.Rings.{carries_after, ring_after, says_now}

-- From where it begins the latest override of a plan is in force.
pub newest_in_force : (base : Env) (override : Override) (plan : List Override) (taken : ℕ) → override.low ≤ taken → IsInForce base (override ∷ plan) taken override.env override.until
newest_in_force base override plan taken begun = record {
  in_force = λ count from. ap (λ (b : Bool). cond b (env_at base plan count) (cond (ltb count override.until) override.env base)) (le-ltb count override.low (omega (arith, begun, from)));
}

-- It ends within so many items where its failure was at this point, and the run asks for an item no earlier.
pub newest_past : (rules : Rules) (until point : ℕ) (now : Path) → until ≡ point + rules.limits.keep → point ≤ now.state.machine.taken → AsksFor rules.limits [] now now.state.machine.taken
    → EndsWithin rules.limits until now
newest_past rules until point now is reached asks =
    elim (cases_lt until (now.state.machine.taken + rules.limits.keep)) [
      | inl less ↦ inl less
      | inr most ↦ inr (omega (arith, is, reached, most), asks)
    ]

module _ {R : Type 0} where
  -- Its guest ends itself where its run has reached what was handed over: an ordinary session that has just begun there has come to its end.
  pub exited_following : {rules : Rules} {image : Image} {handed : Handed} {events : List LinkEvent} {now to : Path} {began : Since} {seen : Seen} {old new : SessionState R} {code : ℕ} → rules.bounds.before ≡ nothing_before → IsFollowing rules image handed events now began seen.phases old
      → began.told ≡ seen.told → began.lost ≡ 0 → Grew began.noted_before.episodes began.noted.episodes [] → TellsMore began.tables_before began.tables (AreTables (rules_behind rules handed events to) [] [] [])
      → HasSameSide old new → new.replies ≡ old.replies → new.choices ≡ old.choices → IsCounted new → GoesOn rules.limits (items_in (rules_following rules handed events now).bounds []) (plan_up_to rules.limits.base (plan_of rules.limits.keep handed.episodes) now.state.machine.taken) now to → IsSilent now to
      → Writes rules.limits (items_in (rules_following rules handed events now).bounds []) old.cpu.base now old.cpu.written to new.cpu.written → to.state.ended ≡ Some code → new.cpu.slots.live ≡ standing_of to
      → (there : IsSome to.state.ended) → HasReached rules.limits handed to (AtExit there) → HasFollowed rules image handed events to × IsEnding (rules_behind rules handed events to) image began seen new (session_end.Exited code)
  exited_following {rules = rules} {image = image} {handed = handed} {events = events} {now = now} {to = to} {began = began} {seen = seen} {old = old} {new = new} {code = code} alone f told lost episodes tables side replies chosen counted goes silent wrote ended stands there reached =
      let plan : List Override = plan_of rules.limits.keep handed.episodes in
      let here : Rules = rules_following rules handed events now in
      let next : Rules = rules_behind rules handed events to in
      let items : List Item = items_in here.bounds [] in
      let under : List Override = plan_up_to rules.limits.base plan now.state.machine.taken in
      let what : Before = came_before (events_in (heard_alone events)) (held handed.counts to.state.sends) plan to in
      let same : what.events ≡ events_of here.bounds [] = sym (append-nil (events_in (heard_alone events))) in
      let still = goes.taken in
      let says : SaysAs here image items under plan to = says_alike here image items under plan to (λ count few. up_to_same rules.limits.base plan now.state.machine.taken count (omega (arith, few, still))) in
      let served : Served rules.limits items under (origin image) to = served_on rules.limits items under (origin image) now to f.stands.sound.carries.served goes.served in
      let saved = saved_on {story = begun_story here image} {to = to} side (ap (λ (l : Ledger). l.first) replies) goes.served wrote (omega (arith, still)) (requests_on {to = to} goes.served still f.stands.saved.requests) f.stands.saved in
      let ring = ring_after here image [] what under plan to saved.paths new.cpu new.log new.replies same says saved.ring in
      let log_items : KeepsItems here.bounds [] new.log = subst (KeepsItems here.bounds []) (sym side.log) f.stands.goes.items in
      let items_are : KeepsItems next.bounds [] new.log = items_after here [] what same log_items in
      let few = f.stands.sound.carries.taken in
      let carries = carries_after here image [] what under plan to handed.counts same refl says served (omega (arith, few, still)) (timed_from rules.limits items under image to served) in
      let is_told : IsTold next image began seen.told (begun_story next image) = just_told {rules = next} {image = image} {began = began} (record { heeded = items_are.all_heeded; carries = carries }) told lost episodes tables in
      let a = answers_for {story = begun_story here image} {to = to} [] f.stands.answers side.recorded (silent.choices ∙ sym (append-nil now.choices)) (chosen ∙ sym (append-nil old.choices)) counted stands in
      let whole : Served rules.limits (items_in rules.bounds (heard_alone events)) plan (origin image) to =
      subst (λ (its : List Item). Served rules.limits its plan (origin image) to) (items_following rules image handed events now alone) (says_now here image items under plan to says served) in
      let to_now = whole_following rules image handed events now alone now f.stands.sound.carries.served in (
        record {
          ran = whole;
          stand = AtExit there;
          reached = reached;
          first = not_on rules.limits (items_in rules.bounds (heard_alone events)) image handed now to f.before to_now (goes_to rules.limits (items_in rules.bounds (heard_alone events)) plan (origin image) now to to_now whole goes.later) still;
          asked = f.asked;
        },
        record {
          story = begun_story next image;
          walk = None;
          lost = began.lost;
          lost_is = none_lost;
          noted = began.noted;
          last_noted = none_noted;
          told = told_unwatched is_told;
          tables = tables_here next (begun_story next image) (stop.Ends (session_end.Exited code)) began.tables_before began.tables tables;
          answers = record { low = a.low; recorded = a.recorded; choices = a.choices; unnoted = a.unnoted; taken = a.taken; steps = a.steps };
          received_are = received_is items_are;
          replies =
              subst (KeepsReplies next.bounds [] None to.state.sends) (sym replies)
              (subst (λ (all : List Send). KeepsReplies next.bounds [] None all old.replies) (sym silent.sends)
              (replies_after here [] what same (ap (held handed.counts) silent.sends ∙ sym (append-nil (held handed.counts now.state.sends))) (λ conn. refl) f.stands.replies));
          no_trial = ap (λ (l : Ledger). l.trial) replies ∙ f.stands.no_trial;
          closed = λ send stood closing owed. absurd owed;
          holds = record {
            paths = saved.paths;
            some = ring.some;
            chained = ring.chained;
            are = ring.are;
            saved = ring.saved;
            requests = handled_after here image (keeping_of new) [] [] (events_in (heard_alone events)) (held handed.counts to.state.sends) under plan now to same refl refl (sym (append-nil items)) says goes.served saved.requests;
          };
          handled = λ at. absurd at;
          live = stands;
          stands = ended;
          walked = tt;
          gave_up = tt;
        },
      )
