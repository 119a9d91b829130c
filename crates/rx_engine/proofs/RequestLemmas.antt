-- A session that follows, at its guest's request: it is judged there by its counts, and is released, or isn't; or it waits for the item.
use Rattle.std.proofs.Common.{Bool, true}
use Rattle.rx_base.specs.declared.item.Item.{Item}
use Rattle.links.specs.declared.journal.LinkEvent.TheVariants.{Ends as EndOfLink}
use Rattle.session_notes.specs.declared.episode.Episode.{Episode}
use Rattle.session_history.specs.declared.ends.SessionBreak.TheVariants as session_break
use Rattle.session_history.specs.declared.ends.Stop.TheVariants as stop
use Rattle.trials.specs.Episodes.{episode_of}
use Rattle.session_state.specs.declared.options.Options.{Options}
use Rattle.trials.proofs.Asking.{asks_under_all}
use Rattle.std.specs.Prelude.{Err, Ok, Option}
use Rattle.session_following.specs.declared.judging.StandKind.TheVariants as kind
use Rattle.session_following.specs.declared.unfollowed.Unfollowed.TheVariants as unfollowed
use Rattle.session_following.proofs.Following.{items_following, kept_following, whole_following}
use Rattle.session_following.proofs.Holding.{following_holding}
use Rattle.session_following.proofs.Steps.{marked_story}
use Rattle.rx_engine.proofs.Terms.{List, [], ap, append-nil, arith, drop, inl, inr, length, map, refl, subst, sym, take, ℕ, ◌++◌, ◌+◌, ◌∙◌, ◌∷◌, ◌≡◌, ◌≤◌, false≢true, Result, false, LinkEvent, Coming, Grew, Tells, Told, Seen, Heap, Image, AsksFor, Path, Standing, Stop, items_in, Rules, Noted, Shown, AsksForMore, heard_alone, AtRequest, Handed, HasReached, AreWellPlaced, plan_of, received_is, BreaksNoting, rules_by, SessionState, IsWaitingFor, Story, Unfollowed, is_marked, ends_behind, enough, judged_at, short_here, short_there, unlike_here, unlike_there, HasSameBase, here_then, unfollowed_of, IsInPlace, IsShort, IsUnlike, rules_following, plan_up_to, IsJudgedAt, IsUnfollowed, IsUnfollowedBy, AsksOn, Follows, HasReachedOn, WaitsOn, held_back, marked, nothing_told, EndedOn, KeepsHandling, KeepsHeard, StoppedOn}

-- at its request
module _ {R : Type 0} {rules here : Rules} {image : Image} {handed : Handed} {told : Told} {seen : Seen} {before noted : Noted} {missing : List ℕ} {session : SessionState R} (a : AsksOn rules here image handed told seen before noted missing session) where
  -- it asks so under the whole plan of the report
  pub asks_whole : AsksFor rules.limits (plan_of rules.limits.keep handed.episodes) a.stands.now a.stands.now.state.machine.taken
  asks_whole = asks_under_all rules.limits (plan_up_to rules.limits.base (plan_of rules.limits.keep handed.episodes) a.stands.now.state.machine.taken) (plan_of rules.limits.keep handed.episodes) a.stands.now a.stands.now.state.machine.taken a.asks

  -- where it is judged by the counts of the session
  pub judged_request : IsJudgedAt rules.limits (enough a.stands.now.state.machine.taken) handed a.stands.now (AtRequest asks_whole) missing kind.Request session.taken session.steps (session.recorded + length session.choices) false
  judged_request = judged_at (enough a.stands.now.state.machine.taken) a.stands (AtRequest asks_whole) refl (λ is. absurd (false≢true is)) (λ other. absurd (other refl))

  -- where it has reached what was handed over
  pub reached_request : HasReached rules.limits handed a.stands.now (AtRequest asks_whole) → HasReachedOn rules here image handed told seen before noted missing session
  reached_request reached = record { stands = a.stands; stand = AtRequest asks_whole; lives = λ (e : kind.Request ≡ kind.Exit). absurd (cc e); reached = reached }

  -- it has taken no more items than may be
  pub few_asked : session.taken ≤ rules.bounds.max_items
  few_asked = let few = a.stands.follows.stands.goes.few in let taken = a.stands.follows.stands.answers.taken in omega (arith, few, taken)

  -- it isn't released there
  unfollowed_request : (why : Unfollowed) → IsUnfollowedBy rules image handed seen.coming a.stands.events [] a.stands.now why → IsUnfollowed rules image handed told seen before noted session.cpu.slots.live.steps session why
  unfollowed_request why cause =
      unfollowed_of [] why a.stands refl a.stands.episodes refl refl refl refl (subst (λ (all : List LinkEvent). Tells told seen.told (heard_alone all)) (sym (append-nil a.stands.events)) a.stands.heard) cause
      (λ any. ap (λ (s : Standing). s.steps) a.stands.follows.stands.goes.guest)

  pub unlike_request : {step : ℕ} → AreWellPlaced handed.episodes → session.steps ≡ step → IsUnlike rules.limits (enough a.stands.now.state.machine.taken) handed a.stands.now
      → IsUnfollowed rules image handed told seen before noted session.cpu.slots.live.steps session (unfollowed.Mismatch step)
  unlike_request {step = step} placed steps unlike =
      unfollowed_request (unfollowed.Mismatch step) (unlike_here rules image handed seen.coming a.stands.events a.stands.now asks_whole placed a.stands.agree (sym a.stands.follows.stands.answers.steps ∙ steps) unlike)

  pub short_request : {conn : ℕ} → IsShort rules.limits (enough a.stands.now.state.machine.taken) handed a.stands.now conn × IsInPlace handed a.stands.now → IsUnfollowed rules image handed told seen before noted session.cpu.slots.live.steps session (unfollowed.Short conn)
  short_request {conn = conn} short = unfollowed_request (unfollowed.Short conn) (short_here rules image handed seen.coming a.stands.events a.stands.now asks_whole short)

-- its request was handled, and it waits still
module _ {R : Type 0} where
  pub handled_on : (permits : R → Heap → ℕ → ℕ → Bool) {rules : Rules} {image : Image} {handed : Handed} {told : Told} {seen : Seen} {before : Noted} {shown now : Shown} {missing : List ℕ} {old new : SessionState R} {done : Unit {0}} → (w : WaitsOn rules (rules_by permits old) image handed told seen before shown.told missing old)
      → KeepsHandling shown now old new (Ok done) → IsWaitingFor (rules_by permits old) image (marked before now.told) (record seen { told = nothing_told }) new → WaitsOn rules (rules_by permits new) image handed told seen before now.told missing new
  handled_on permits {rules = rules} {image = image} {handed = handed} {seen = seen} {before = before} {now = now} {old = old} {new = new} w k wait =
      let s = w.asking.stands in
      let waits : IsWaitingFor (rules_following (held_back rules) handed s.events s.now) image (marked before now.told) (record seen { told = nothing_told }) new =
      subst (λ (r : Rules). IsWaitingFor r image (marked before now.told) (record seen { told = nothing_told }) new) s.here_is wait in
      let is = marked_story waits.hearing.told (is_marked before now.told) in
      let steps : new.steps ≡ old.steps = ap (λ (t : SessionState R). t.steps) k.same in
      let env : new.env ≡ old.env = ap (λ (t : SessionState R). t.env) k.same in
      let until : new.until ≡ old.until = ap (λ (t : SessionState R). t.until) k.same in
      let came : new.before ≡ old.before = ap (λ (t : SessionState R). t.before) k.same in
      let base : HasSameBase old new = record { options = ap (λ (t : SessionState R). t.options) k.same; rule = k.rule; hold = ap (λ (t : SessionState R). t.hold) k.same } in
      record {
        asking = record {
          stands = record {
            alone = s.alone;
            hold_is = s.hold_is ∙ sym (ap (λ (o : Options). o.hold) base.options);
            events = s.events;
            now = s.now;
            follows = kept_following s.alone s.follows waits.hearing (is_marked before now.told) steps env until;
            here_is = here_then permits (held_back rules) handed s.events s.events s.now s.now {old = old} {new = new} base s.here_is (came ∙ ap (λ (r : Rules). r.bounds.before) s.here_is);
            heard = s.heard;
            episodes = subst (λ (story : Story). Grew before.episodes now.told.episodes (map episode_of story.recoveries)) is waits.hearing.told.episodes;
            agree = s.agree;
            missing_are = s.missing_are;
          };
          asks = w.asking.asks;
        };
        not_yet = w.not_yet;
      }

  -- the counts of one that asks are its guest's
  pub asks_counted : {rules here : Rules} {image : Image} {handed : Handed} {told : Told} {seen : Seen} {before noted : Noted} {missing : List ℕ} {session : SessionState R} → AsksOn rules here image handed told seen before noted missing session → session.cpu.slots.live.steps ≡ session.steps
  asks_counted a = ap (λ (s : Standing). s.steps) a.stands.follows.stands.goes.guest ∙ sym a.stands.follows.stands.answers.steps

  -- and so they are once its request was handled
  pub handled_counted : {shown now : Shown} {old new : SessionState R} {result : Result (Unit {0}) Stop} → KeepsHandling shown now old new result → old.cpu.slots.live.steps ≡ old.steps → new.cpu.slots.live.steps ≡ new.steps
  handled_counted k counted = ap (λ (s : Standing). s.steps) k.live ∙ (counted ∙ sym (ap (λ (s : SessionState R). s.steps) k.same))

  -- and so they are once it has heard its link
  pub heard_counted : {old new : SessionState R} → KeepsHeard old new → old.cpu.slots.live.steps ≡ old.steps → new.cpu.slots.live.steps ≡ new.steps
  heard_counted k counted = ap (λ (s : SessionState R). s.cpu.slots.live.steps) k.same ∙ (counted ∙ sym (ap (λ (s : SessionState R). s.steps) k.same))

-- noting failed, or memory ran out
noting_cause : (rules : Rules) (image : Image) (handed : Handed) (coming : Option Coming) (events : List LinkEvent) (now : Path) (why : Stop) → BreaksNoting (Err why) → IsUnfollowedBy rules image handed coming events [] now (unfollowed.Stops why)
noting_cause rules image handed coming events now (stop.Ends end) broken = absurd broken
noting_cause rules image handed coming events now (stop.Breaks session_break.ReadFault) broken = absurd broken
noting_cause rules image handed coming events now (stop.Breaks session_break.WriteFault) broken = absurd broken
noting_cause rules image handed coming events now (stop.Breaks session_break.FileFault) broken = refl
noting_cause rules image handed coming events now (stop.Breaks session_break.Memory) broken = inl refl

module _ {R : Type 0} where
  pub noting_failed : {rules here : Rules} {image : Image} {handed : Handed} {told : Told} {seen : Seen} {before : Noted} {shown now : Shown} {missing : List ℕ} {old new : SessionState R} (why : Stop) → (w : WaitsOn rules here image handed told seen before shown.told missing old)
      → KeepsHandling shown now old new (Err why) → IsUnfollowed rules image handed told seen before now.told new.cpu.slots.live.steps new (unfollowed.Stops why)
  noting_failed {rules = rules} {image = image} {handed = handed} {told = told} {seen = seen} {before = before} why w k =
      let s = w.asking.stands in
      unfollowed_of [] (unfollowed.Stops why) s k.none.0 (subst (λ (o : Option (List Episode)). Grew before.episodes o []) (sym k.episodes) s.episodes) k.none.1 k.none.2 (ap (λ (t : SessionState R). t.taken) k.same) (ap (λ (t : SessionState R). t.steps) k.same)
      (subst (λ (all : List LinkEvent). Tells told seen.told (heard_alone all)) (sym (append-nil s.events)) s.heard) (noting_cause rules image handed seen.coming s.events s.now why k.broken) (λ any. ap (λ (t : Standing). t.steps) (k.live ∙ s.follows.stands.goes.guest))

  -- its link stopped it
  pub hearing_failed : {rules : Rules} {image : Image} {handed : Handed} {told : Told} {seen : Seen} {before noted : Noted} {missing : List ℕ} {session : SessionState R} (why : Stop) → (e : StoppedOn rules image handed told seen before noted missing session why) → session.cpu.slots.live.steps ≡ session.steps
      → IsUnfollowed rules image handed told seen before noted session.cpu.slots.live.steps session (unfollowed.Stops why)
  hearing_failed why e counted =
      let s = e.waited.waits.asking.stands in
      let same = e.waited.same in
      unfollowed_of e.last (unfollowed.Stops why) s refl s.episodes same.recorded same.choices same.taken same.steps e.heard e.cause (λ any. counted ∙ (same.steps ∙ s.follows.stands.answers.steps))

-- it isn't released, where an event was asked for behind those that it followed
module _ {R : Type 0} where
  pub unfollowed_asked : {rules here : Rules} {image : Image} {handed : Handed} {told : Told} {was seen : Seen} {before noted : Noted} {missing : List ℕ} {old new : SessionState R} {counted : ℕ} (last : List LinkEvent) (why : Unfollowed) (s : Follows rules here image handed told was before noted missing old)
      → new.recorded ≡ old.recorded → new.choices ≡ old.choices → new.taken ≡ old.taken → new.steps ≡ old.steps → Tells told seen.told (heard_alone (s.events ++ last)) → IsUnfollowedBy rules image handed seen.coming s.events last s.now why → counted ≡ s.now.steps → AsksForMore rules image handed s.events
      → (stopped : IsUnfollowed rules image handed told seen before noted counted new why) × AsksForMore rules image handed stopped.events
  unfollowed_asked {rules = rules} {image = image} {handed = handed} {before = before} {noted = noted} last why s recorded choices taken steps heard cause counted asked =
      let f = following_holding rules.hold s.follows in
      let a = f.stands.answers in (
        record {
          events = s.events;
          last = last;
          now = s.now;
          ran = whole_following rules image handed s.events s.now s.alone s.now f.stands.sound.carries.served;
          not_before = f.before;
          asked = f.asked;
          heard = heard;
          cause = cause;
          low = subst (λ (n : ℕ). n ≤ length s.now.choices) (sym recorded) a.low;
          noted = subst (λ (n : ℕ). Grew before.choices noted.choices (take n s.now.choices)) (sym recorded) a.recorded;
          episodes = s.episodes;
          choices = choices ∙ (a.choices ∙ ap (λ (n : ℕ). drop n s.now.choices) (sym recorded));
          taken = taken ∙ a.taken;
          steps = steps ∙ a.steps;
          counted_all = λ any. counted;
        },
        asked,
      )

-- where the link has ended
module _ {R : Type 0} {rules : Rules} {image : Image} {handed : Handed} {told : Told} {seen : Seen} {before noted : Noted} {missing : List ℕ} {session : SessionState R} (e : EndedOn rules image handed told seen before noted missing session) where
  abbrev pub ended_now : Path
  ended_now = e.waited.waits.asking.stands.now

  abbrev pub ended_items : List Item
  ended_items = items_in rules.bounds (heard_alone e.waited.waits.asking.stands.events)

  -- no item is left
  stuck_end : length ended_items ≤ ended_now.state.machine.taken
  stuck_end =
      let s = e.waited.waits.asking.stands in
      let heard = items_following (held_back rules) image handed s.events s.now s.alone in
      omega (arith, e.none_left, received_is s.follows.stands.goes.items, s.follows.stands.answers.taken, ap length heard)

  pub judged_end : IsJudgedAt rules.limits ended_items handed ended_now (AtRequest (asks_whole e.waited.waits.asking)) missing kind.Request session.taken session.steps (session.recorded + length session.choices) true
  judged_end =
      let s = e.waited.waits.asking.stands in
      let j = judged_at ended_items s (AtRequest (asks_whole e.waited.waits.asking)) refl (λ (any : true ≡ true). stuck_end) (λ any. refl) in
      let same = e.waited.same in
      record {
        kind_is = refl;
        taken_are = j.taken_are ∙ sym same.taken;
        steps_are = j.steps_are ∙ sym same.steps;
        chosen_are = j.chosen_are ∙ sym (λ i. same.recorded i + length (same.choices i));
        missing_are = j.missing_are;
        agree = j.agree;
        is_stuck = λ any. stuck_end;
        at_end = j.at_end;
      }

  unfollowed_at_end : {counted : ℕ} (why : Unfollowed) → counted ≡ session.steps → IsUnfollowedBy rules image handed seen.coming e.waited.waits.asking.stands.events (EndOfLink ∷ []) ended_now why → (stopped : IsUnfollowed rules image handed told seen before noted counted session why) × AsksForMore rules image handed stopped.events
  unfollowed_at_end why counted cause =
      let s = e.waited.waits.asking.stands in
      let same = e.waited.same in
      unfollowed_asked (EndOfLink ∷ []) why s same.recorded same.choices same.taken same.steps e.heard cause (counted ∙ (same.steps ∙ s.follows.stands.answers.steps)) e.ended.asked

  pub unlike_end : {step counted : ℕ} → AreWellPlaced handed.episodes → session.steps ≡ step → counted ≡ session.steps → IsUnlike rules.limits ended_items handed ended_now → (stopped : IsUnfollowed rules image handed told seen before noted counted session (unfollowed.Mismatch step)) × AsksForMore rules image handed stopped.events
  unlike_end {step = step} placed steps counted unlike =
      let s = e.waited.waits.asking.stands in
      unfollowed_at_end (unfollowed.Mismatch step) counted
      (unlike_there rules image handed seen.coming s.events (EndOfLink ∷ []) s.now placed refl s.agree (inr e.ended) (ends_behind rules image handed seen.coming s.events (EndOfLink ∷ []) s.now (asks_whole e.waited.waits.asking) e.ended)
      (sym s.follows.stands.answers.steps ∙ (sym e.waited.same.steps ∙ steps)) unlike)

  pub short_end : {conn counted : ℕ} → counted ≡ session.steps → IsShort rules.limits ended_items handed ended_now conn × IsInPlace handed ended_now → (stopped : IsUnfollowed rules image handed told seen before noted counted session (unfollowed.Short conn)) × AsksForMore rules image handed stopped.events
  short_end {conn = conn} counted short =
      let s = e.waited.waits.asking.stands in
      unfollowed_at_end (unfollowed.Short conn) counted
      (short_there rules image handed seen.coming s.events (EndOfLink ∷ []) s.now (inr e.ended) (ends_behind rules image handed seen.coming s.events (EndOfLink ∷ []) s.now (asks_whole e.waited.waits.asking) e.ended) short)
