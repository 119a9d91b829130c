-- What each step makes of a session that follows.
use Rattle.links.specs.declared.journal.Entry.TheVariants as entry
use Rattle.session_following.proofs.Terms.{List, None, [], ap, append-nil, arith, cond, inl, inr, length, length-append, ltb, refl, subst, sym, ℕ, ◌++◌, ◌+◌, ◌<◌, ◌∙◌, ◌∷◌, ◌≡◌, ◌≤◌, ◌⊎◌, map-append, unwrap_or, Item, Send, Entry, LinkEvent, events_in-append, Phases, events_in, Seen, Choice, Env, IsOpened, Ledger, Image, serves_to, start, start_machine, AsksFor, Limits, Override, Path, Served, env_at, origin, GoesOn, standing_of, Writes, TookOne, asks_takes, later_of, events_alone, items_in-alike, none_had, Before, events_of, items_in, nothing_before, received, IsSendable, KeepsItems, KeepsPhases, KeepsReplies, Rules, Survivor, passed_in, asks_under_all, start_taken, HasFollowed, heard_alone, rules_behind, Handed, HasReached, Stand, held, plan_of, IsInForce, HasSameRun, HasSameSide, IsCounted, SessionState, IsGoing, IsHearing, Since, Story, entries, sends, came_before, plan_up_to, rules_after, HasNotReached, IsNotReached, HasJustBegun, story_alone, held_count, with_held, IsFollowing, followed_before, rules_following}
use Rattle.session_following.proofs.Based.{SaysAs, replies_after, same_items, says_itself}
use Rattle.session_following.proofs.Held.{held_beside, sent_is_held}
use Rattle.session_following.proofs.PlanLemmas.{goes_to, same_steps, says_alike, says_start, says_until, up_to_env, up_to_same}
use Rattle.session_following.proofs.Reaching.{asked_then, not_more, not_next, not_on}
use Rattle.session_following.proofs.Rebased.{StandsThere, rebased}
use Rattle.session_following.proofs.Rings.{says_now}
use Rattle.session_following.proofs.Steps.{IsMarked, going_there, heard_there, hearing_there, itself_there, marked_story, ran_there}

-- the environment of the report is in force up to the next item
in_force_here : {R : Type 0} (base : Env) (plan : List Override) (taken : ℕ) (session : SessionState R) → session.env ≡ env_at base plan taken → session.until ≡ taken + 1 → IsInForce base (plan_up_to base plan taken) taken session.env session.until
in_force_here base plan taken session env until = record {
  in_force = λ count from. up_to_env base plan taken count from ∙ (λ i. cond (ltb count (sym until i)) (sym env i) base);
}

-- one instruction from a request takes the item that it asks for
pub took_one : (limits : Limits) (items : List Item) (plan : List Override) (now to : Path) → AsksFor limits plan now now.state.machine.taken → Served limits items plan now to → to.steps ≡ now.steps + 1 → TookOne now to
took_one limits items plan now to asks on one =
    elim (later_of limits items plan now to on) [
      | inl same ↦ absurd (let is : now.steps ≡ to.steps = ap (λ (p : Path). p.steps) same in omega (arith, is, one))
      | inr later ↦
          let steps = (serves_to limits items (env_at limits.base plan now.state.machine.taken) now later.next later.goes).steps in
          let is : later.next ≡ to = same_steps limits items plan later.next to later.on (omega (arith, one, steps)) in
          subst (λ (p : Path). TookOne now p) is (asks_takes limits items plan now later.next now.state.machine.taken asks later.goes)
    ]

-- what is known of a session is so whatever environment it has next
with_env : {R : Type 0} {rules : Rules} {image : Image} {began : Since} {phases : Phases} {survivor : Survivor} {entries : List Entry} {session : SessionState R} {env : Env} {until : ℕ} → StandsThere rules image began phases survivor entries session
    → StandsThere rules image began phases survivor entries (record session { env = env; until = until })
with_env t = record {
  plan = t.plan;
  begun = t.begun;
  served = t.served;
  way = t.way;
  taken = t.taken;
  more = t.more;
  brings = t.brings;
  answers = record { low = t.answers.low; recorded = t.answers.recorded; choices = t.answers.choices; unnoted = t.answers.unnoted; taken = t.answers.taken; steps = t.answers.steps };
  goes = record {
    lives = t.goes.lives;
    guest = t.goes.guest;
    bounded = t.goes.bounded;
    few = t.goes.few;
    within = t.goes.within;
    items = t.goes.items;
    events = t.goes.events;
    phases_are = t.goes.phases_are;
  };
  paths = t.paths;
  ring = t.ring;
  early = t.early;
  requests = t.requests;
}

module _ (rules : Rules) (image : Image) (handed : Handed) (events : List LinkEvent) (now : Path) (alone : rules.bounds.before ≡ nothing_before) where
  -- it heard these items
  pub items_following : items_in (rules_following rules handed events now).bounds [] ≡ items_in rules.bounds (heard_alone events)
  items_following = same_items rules (heard_alone events) (followed_before rules.limits handed events now) (sym (events_alone rules.bounds (heard_alone events) alone))

  -- a run up to there is one under the plan of the report
  pub whole_following : (to : Path) → Served rules.limits (items_in (rules_following rules handed events now).bounds []) (plan_up_to rules.limits.base (plan_of rules.limits.keep handed.episodes) to.state.machine.taken) (origin image) to
      → Served rules.limits (items_in rules.bounds (heard_alone events)) (plan_of rules.limits.keep handed.episodes) (origin image) to
  whole_following to served =
      let plan : List Override = plan_of rules.limits.keep handed.episodes in
      let items : List Item = items_in (rules_following rules handed events now).bounds [] in
      subst (λ (its : List Item). Served rules.limits its plan (origin image) to) items_following
      (says_now rules image items (plan_up_to rules.limits.base plan to.state.machine.taken) plan to
      (says_alike rules image items (plan_up_to rules.limits.base plan to.state.machine.taken) plan to (λ count few. up_to_same rules.limits.base plan to.state.machine.taken count few)) served)

  -- the ledger beside another run that sent the same
  same_replies : (to : Path) (old new : Ledger) → to.state.sends ≡ now.state.sends → new ≡ old → KeepsReplies (rules_following rules handed events now).bounds [] None now.state.sends old
      → KeepsReplies (rules_following rules handed events to).bounds [] None to.state.sends new
  same_replies to old new sends ledger keeps =
      subst (KeepsReplies (rules_following rules handed events to).bounds [] None to.state.sends) (sym ledger)
      (subst (λ (all : List Send). KeepsReplies (rules_following rules handed events to).bounds [] None all old) (sym sends)
      (replies_after (rules_following rules handed events now) [] (followed_before rules.limits handed events to) (sym (append-nil (events_in (heard_alone events)))) (ap (held handed.counts) sends ∙ sym (append-nil (held handed.counts now.state.sends))) (λ conn. refl) keeps))

module _ {R : Type 0} where
  -- its guest ran on to there without taking an item, and used these answers of the allocator
  pub ran_following : {rules : Rules} {image : Image} {handed : Handed} {events : List LinkEvent} {now to : Path} {began : Since} {phases : Phases} {old new : SessionState R} (more : List Choice) → rules.bounds.before ≡ nothing_before → IsFollowing rules image handed events now began phases old
      → HasSameSide old new → new.replies.first ≡ old.replies.first → to.choices ≡ now.choices ++ more → new.choices ≡ old.choices ++ more → IsCounted new
      → GoesOn rules.limits (items_in (rules_following rules handed events now).bounds []) (plan_up_to rules.limits.base (plan_of rules.limits.keep handed.episodes) now.state.machine.taken) now to
      → Writes rules.limits (items_in (rules_following rules handed events now).bounds []) old.cpu.base now old.cpu.written to new.cpu.written → to.state.ended ≡ None → new.cpu.slots.live ≡ standing_of to
      → KeepsReplies (rules_following rules handed events to).bounds [] None to.state.sends new.replies → new.replies.trial ≡ None → IsFollowing rules image handed events to began phases new
  ran_following {rules = rules} {image = image} {handed = handed} {events = events} {now = now} {to = to} {new = new} more alone f side first used chosen counted goes wrote lives stands replies no_trial =
      let plan : List Override = plan_of rules.limits.keep handed.episodes in
      let here : Rules = rules_following rules handed events now in
      let items : List Item = items_in here.bounds [] in
      let there = ran_there {rules = here} {image = image} {to = to} more f.stands side first used chosen counted goes wrote lives stands in
      let still = goes.taken in
      let env : new.env ≡ env_at rules.limits.base plan to.state.machine.taken = side.env ∙ (f.env ∙ ap (env_at rules.limits.base plan) (sym still)) in
      let until : new.until ≡ to.state.machine.taken + 1 = side.until ∙ (f.until ∙ ap (λ (n : ℕ). n + 1) (sym still)) in
      let says : SaysAs here image items (plan_up_to rules.limits.base plan now.state.machine.taken) (plan_up_to rules.limits.base plan to.state.machine.taken) to =
      subst (λ (p : List Override). SaysAs here image items (plan_up_to rules.limits.base plan now.state.machine.taken) p to) (ap (plan_up_to rules.limits.base plan) (sym still)) (says_itself here image items (plan_up_to rules.limits.base plan now.state.machine.taken) to) in
      let served : Served rules.limits items (plan_up_to rules.limits.base plan to.state.machine.taken) (origin image) to = says_now here image items (plan_up_to rules.limits.base plan now.state.machine.taken) (plan_up_to rules.limits.base plan to.state.machine.taken) to says there.served in
      let to_now = whole_following rules image handed events now alone now f.stands.sound.carries.served in
      let to_there = whole_following rules image handed events now alone to served in
      record {
        stands =
            rebased {rules = here} {events = events_in (heard_alone events)} {had = held handed.counts to.state.sends} handed.counts (plan_up_to rules.limits.base plan to.state.machine.taken) there (sym (append-nil (events_in (heard_alone events)))) refl says replies no_trial
            (in_force_here rules.limits.base plan to.state.machine.taken new env until);
        env = env;
        until = until;
        some_keep = f.some_keep;
        before =
            not_on rules.limits (items_in rules.bounds (heard_alone events)) image handed now to f.before to_now
            (goes_to rules.limits (items_in rules.bounds (heard_alone events)) plan (origin image) now to to_now to_there goes.later) still;
        asked = f.asked;
      }

  -- an ask was answered, or it came to a request, an exit or a failure: nothing was sent
  pub went_following : {rules : Rules} {image : Image} {handed : Handed} {events : List LinkEvent} {now to : Path} {began : Since} {phases : Phases} {old new : SessionState R} (more : List Choice) → rules.bounds.before ≡ nothing_before → IsFollowing rules image handed events now began phases old
      → HasSameSide old new → new.replies ≡ old.replies → to.choices ≡ now.choices ++ more → new.choices ≡ old.choices ++ more → to.state.sends ≡ now.state.sends → IsCounted new
      → GoesOn rules.limits (items_in (rules_following rules handed events now).bounds []) (plan_up_to rules.limits.base (plan_of rules.limits.keep handed.episodes) now.state.machine.taken) now to
      → Writes rules.limits (items_in (rules_following rules handed events now).bounds []) old.cpu.base now old.cpu.written to new.cpu.written → to.state.ended ≡ None → new.cpu.slots.live ≡ standing_of to
      → IsFollowing rules image handed events to began phases new
  went_following {rules = rules} {image = image} {handed = handed} {events = events} {now = now} {to = to} {old = old} {new = new} more alone f side replies used chosen sent counted goes wrote lives stands =
      ran_following more alone f side (ap (λ (l : Ledger). l.first) replies) used chosen counted goes wrote lives stands
      (same_replies rules image handed events now alone to old.replies new.replies sent replies f.stands.replies) (ap (λ (l : Ledger). l.trial) replies ∙ f.stands.no_trial)

  -- it sent: its ledger has the send, and as much of it as clients have is passed
  pub sent_following : {rules : Rules} {image : Image} {handed : Handed} {events : List LinkEvent} {now to : Path} {began : Since} {phases : Phases} {old new : SessionState R} (send : Send) → rules.bounds.before ≡ nothing_before → IsFollowing rules image handed events now began phases old
      → HasSameSide old new → to.choices ≡ now.choices → new.choices ≡ old.choices → to.state.sends ≡ now.state.sends ++ send ∷ [] → IsCounted new → IsOpened old.replies send.conn → IsSendable send → new.replies ≡ with_held old.replies send (held_count handed.counts now.state.sends send)
      → GoesOn rules.limits (items_in (rules_following rules handed events now).bounds []) (plan_up_to rules.limits.base (plan_of rules.limits.keep handed.episodes) now.state.machine.taken) now to
      → Writes rules.limits (items_in (rules_following rules handed events now).bounds []) old.cpu.base now old.cpu.written to new.cpu.written → to.state.ended ≡ None → new.cpu.slots.live ≡ standing_of to
      → IsFollowing rules image handed events to began phases new
  sent_following {rules = rules} {image = image} {handed = handed} {events = events} {now = now} {to = to} {old = old} {new = new} send alone f side used chosen sent counted known sendable how goes wrote lives stands =
      let here : Rules = rules_following rules handed events now in
      let what : Before = followed_before rules.limits handed events to in
      let keeps : KeepsReplies (rules_after here what).bounds [] None (now.state.sends ++ send ∷ []) new.replies =
      subst (KeepsReplies (rules_after here what).bounds [] None (now.state.sends ++ send ∷ [])) (sym how)
      (sent_is_held here what handed.counts now.state.sends old.replies send (sym (append-nil (events_in (heard_alone events)))) refl (ap (held handed.counts) sent) known sendable f.stands.replies) in
      let beside = held_beside old.replies send (held_count handed.counts now.state.sends send) in
      ran_following [] alone f side (ap (λ (l : Ledger). l.first) how ∙ beside.first) (used ∙ sym (append-nil now.choices)) (chosen ∙ sym (append-nil old.choices)) counted goes wrote lives stands
      (subst (λ (all : List Send). KeepsReplies (rules_following rules handed events to).bounds [] None all new.replies) (sym sent) keeps) (ap (λ (l : Ledger). l.trial) how ∙ (beside.trial ∙ f.stands.no_trial))

-- one event more
module _ (rules : Rules) (handed : Handed) (events : List LinkEvent) (now : Path) (event : LinkEvent) where
  events_then : events_in (heard_alone (events ++ event ∷ [])) ≡ events_of (rules_following rules handed events now).bounds (entry.Took event ∷ [])
  events_then = ap events_in (map-append (λ (e : LinkEvent). entry.Took e) events (event ∷ [])) ∙ events_in-append (heard_alone events) (entry.Took event ∷ [])

  items_then : (more : List Item) → rules.bounds.before ≡ nothing_before → items_in (rules_following rules handed events now).bounds (entry.Took event ∷ []) ≡ items_in (rules_following rules handed events now).bounds [] ++ more
      → items_in rules.bounds (heard_alone (events ++ event ∷ [])) ≡ items_in rules.bounds (heard_alone events) ++ more
  items_then more alone brings =
      let events_are = events_then ∙ refl in
      let same = items_in-alike rules.bounds (followed_before rules.limits handed events now) (heard_alone (events ++ event ∷ [])) (entry.Took event ∷ []) (sym events_are ∙ sym (events_alone rules.bounds (heard_alone (events ++ event ∷ [])) alone)) in
      sym same ∙ (brings ∙ ap (λ (its : List Item). its ++ more) (same_items rules (heard_alone events) (followed_before rules.limits handed events now) (sym (events_alone rules.bounds (heard_alone events) alone))))

module _ {R : Type 0} where
  -- An event was heard, where its run asks for more and hasn't reached what was handed over. Nothing is passed.
  pub heard_following : {rules : Rules} {image : Image} {handed : Handed} {events : List LinkEvent} {now : Path} {began : Since} {phases later : Phases} {old new : SessionState R} (event : LinkEvent) (more : List Item) → rules.bounds.before ≡ nothing_before
      → IsFollowing rules image handed events now began phases old → IsNotReached rules.limits handed now → AsksFor rules.limits (plan_up_to rules.limits.base (plan_of rules.limits.keep handed.episodes) now.state.machine.taken) now now.state.machine.taken
      → received (rules_following rules handed events now).bounds [] ≤ now.state.machine.taken → HasSameRun old new → new.replies.first ≡ old.replies.first
      → items_in (rules_following rules handed events now).bounds (entry.Took event ∷ []) ≡ items_in (rules_following rules handed events now).bounds [] ++ more → KeepsItems (rules_following rules handed events now).bounds (entry.Took event ∷ []) new.log
      → KeepsPhases (rules_following rules handed events now).bounds (entry.Took event ∷ []) later → new.events ≡ length (events_of (rules_following rules handed events now).bounds (entry.Took event ∷ []))
      → KeepsReplies (rules_following rules handed events now).bounds (entry.Took event ∷ []) None now.state.sends new.replies → new.replies.trial ≡ None → IsFollowing rules image handed (events ++ event ∷ []) now began later new
  heard_following {rules = rules} {image = image} {handed = handed} {events = events} {now = now} {new = new} event more alone f not_yet asks all same first brings items phases count replies no_trial =
      let plan : List Override = plan_of rules.limits.keep handed.episodes in
      let here : Rules = rules_following rules handed events now in
      let there = heard_there {rules = here} {image = image} {event = event} more f.stands same first brings items phases count in
      let until : new.until ≡ now.state.machine.taken + 1 = same.until ∙ f.until in
      let env : new.env ≡ env_at rules.limits.base plan now.state.machine.taken = same.env ∙ f.env in
      let events_are = events_then rules handed events now event in
      let heard = items_following rules image handed events now alone in
      let low = f.stands.sound.carries.taken in
      let exact : now.state.machine.taken ≡ received rules.bounds (heard_alone events) = omega (arith, low, all, ap length heard) in
      let served = whole_following rules image handed events now alone now f.stands.sound.carries.served in
      record {
        stands =
            rebased {rules = here} {events = events_in (heard_alone (events ++ event ∷ []))} {had = held handed.counts now.state.sends} handed.counts (plan_up_to rules.limits.base plan now.state.machine.taken) there events_are refl
            (says_itself here image (items_in here.bounds (entry.Took event ∷ [])) (plan_up_to rules.limits.base plan now.state.machine.taken) now)
            (replies_after here (entry.Took event ∷ []) (followed_before rules.limits handed (events ++ event ∷ []) now) events_are (sym (append-nil (held handed.counts now.state.sends))) (λ conn. refl) replies) no_trial
            (in_force_here rules.limits.base plan now.state.machine.taken new env until);
        env = env;
        until = until;
        some_keep = f.some_keep;
        before = not_more rules.limits (items_in rules.bounds (heard_alone events)) more (items_in rules.bounds (heard_alone (events ++ event ∷ []))) image handed now (items_then rules handed events now event more alone brings) served f.before;
        asked =
            asked_then rules image handed events event f.asked
            (record {
              path = now;
              ran = served;
              asks = subst (AsksFor rules.limits plan now) exact (asks_under_all rules.limits (plan_up_to rules.limits.base plan now.state.machine.taken) plan now now.state.machine.taken asks);
              not_yet = not_yet;
            });
      }

  -- A method of an ordinary session was called where its guest waits, as a save: it has made no instruction more.
  pub kept_following : {rules : Rules} {image : Image} {handed : Handed} {events : List LinkEvent} {now : Path} {began since : Since} {phases : Phases} {seen : Seen} {old new : SessionState R} → rules.bounds.before ≡ nothing_before → IsFollowing rules image handed events now began phases old
      → (h : IsHearing (rules_following rules handed events now) image since seen new) → IsMarked since seen.told → new.steps ≡ old.steps → new.env ≡ old.env → new.until ≡ old.until → IsFollowing rules image handed events now since seen.phases new
  kept_following {rules = rules} {image = image} {handed = handed} {events = events} {now = now} {since = since} {seen = seen} {old = old} {new = new} alone f h mark steps env_is until_is = of same_now
    where
      plan : List Override
      plan = plan_of rules.limits.keep handed.episodes

      here : Rules
      here = rules_following rules handed events now

      there : StandsThere here image since seen.phases h.story.survivor [] new
      there = hearing_there h mark

      is : h.story ≡ story_alone h.story.survivor []
      is = marked_story h.told mark

      same_now : now ≡ h.story.survivor.now
      same_now =
          same_steps rules.limits (items_in here.bounds []) h.story.survivor.plan now h.story.survivor.now (subst (λ (p : Path). Served rules.limits (items_in here.bounds []) h.story.survivor.plan p h.story.survivor.now) there.begun there.way)
          (omega (arith, h.answers.steps, steps, f.stands.answers.steps))

      replies : KeepsReplies here.bounds [] None h.story.survivor.now.state.sends new.replies
      replies = subst (λ (s : Story). KeepsReplies here.bounds (entries s) None (sends s) new.replies) is h.passed.replies

      of : now ≡ h.story.survivor.now → IsFollowing rules image handed events now since seen.phases new
      of same =
          let to : Path = h.story.survivor.now in
          let number : now.state.machine.taken ≡ to.state.machine.taken = ap (λ (p : Path). p.state.machine.taken) same in
          let env : new.env ≡ env_at rules.limits.base plan to.state.machine.taken = env_is ∙ (f.env ∙ ap (env_at rules.limits.base plan) number) in
          let until : new.until ≡ to.state.machine.taken + 1 = until_is ∙ (f.until ∙ ap (λ (n : ℕ). n + 1) number) in
          let says : SaysAs here image (items_in here.bounds []) h.story.survivor.plan (plan_up_to rules.limits.base plan to.state.machine.taken) to =
          subst (λ (p : List Override). SaysAs here image (items_in here.bounds []) h.story.survivor.plan p to) (sym there.plan ∙ ap (plan_up_to rules.limits.base plan) number) (says_itself here image (items_in here.bounds []) h.story.survivor.plan to) in
          subst (λ (p : Path). IsFollowing rules image handed events p since seen.phases new) (sym same)
          (record {
            stands =
                rebased {rules = here} {events = events_in (heard_alone events)} {had = held handed.counts to.state.sends} handed.counts (plan_up_to rules.limits.base plan to.state.machine.taken) there (sym (append-nil (events_in (heard_alone events)))) refl says
                (replies_after here [] (followed_before rules.limits handed events to) (sym (append-nil (events_in (heard_alone events)))) (ap (λ (p : Path). held handed.counts p.state.sends) (sym same) ∙ sym (append-nil (held handed.counts now.state.sends))) (λ conn. refl) replies)
                h.passed.no_trial (in_force_here rules.limits.base plan to.state.machine.taken new env until);
            env = env;
            until = until;
            some_keep = f.some_keep;
            before = subst (λ (p : Path). HasNotReached rules.limits (items_in rules.bounds (heard_alone events)) image handed p) same f.before;
            asked = f.asked;
          })

  -- Its guest took the item that it waited for, and the environment is that of the report from there on.
  pub took_following : {rules : Rules} {image : Image} {handed : Handed} {events : List LinkEvent} {now : Path} {began since : Since} {phases : Phases} {seen : Seen} {old mid : SessionState R} → rules.bounds.before ≡ nothing_before → IsFollowing rules image handed events now began phases old
      → IsNotReached rules.limits handed now → AsksFor rules.limits (plan_up_to rules.limits.base (plan_of rules.limits.keep handed.episodes) now.state.machine.taken) now now.state.machine.taken
      → (g : IsGoing (rules_following rules handed events now) image since seen mid) → IsMarked since seen.told → mid.steps ≡ old.steps + 1
      → IsFollowing rules image handed events g.story.survivor.now since seen.phases (record mid { env = env_at rules.limits.base (plan_of rules.limits.keep handed.episodes) (old.taken + 1); until = old.taken + 2 })
  took_following {rules = rules} {image = image} {handed = handed} {events = events} {now = now} {since = since} {seen = seen} {old = old} {mid = mid} alone f not_yet asks g mark steps =
      let plan : List Override = plan_of rules.limits.keep handed.episodes in
      let here : Rules = rules_following rules handed events now in
      let items : List Item = items_in here.bounds [] in
      let to : Path = g.story.survivor.now in
      let there : StandsThere here image since seen.phases g.story.survivor [] mid = going_there g mark in
      let is : g.story ≡ story_alone g.story.survivor [] = marked_story g.told mark in
      let replies : KeepsReplies here.bounds [] None to.state.sends mid.replies = subst (λ (s : Story). KeepsReplies here.bounds (entries s) None (sends s) mid.replies) is g.passed.replies in
      let way : Served rules.limits items g.story.survivor.plan now to = subst (λ (p : Path). Served rules.limits items g.story.survivor.plan p to) there.begun there.way in
      let one : to.steps ≡ now.steps + 1 = omega (arith, g.answers.steps, steps, f.stands.answers.steps) in
      let took = took_one rules.limits items g.story.survivor.plan now to (asks_under_all rules.limits (plan_up_to rules.limits.base plan now.state.machine.taken) g.story.survivor.plan now now.state.machine.taken asks) way one in
      let after : SessionState R = record mid { env = env_at rules.limits.base plan (old.taken + 1); until = old.taken + 2 } in
      let number : old.taken + 1 ≡ to.state.machine.taken = omega (arith, f.stands.answers.taken, took.taken) in
      let env : after.env ≡ env_at rules.limits.base plan to.state.machine.taken = ap (env_at rules.limits.base plan) number in
      let until : after.until ≡ to.state.machine.taken + 1 = omega (arith, number) in
      let begins : Served rules.limits items (plan_up_to rules.limits.base plan now.state.machine.taken) (origin image) now = f.stands.sound.carries.served in
      let under : List Override = plan_up_to rules.limits.base plan now.state.machine.taken in
      let on : Served rules.limits items under now to = subst (λ (p : List Override). Served rules.limits items p now to) (sym there.plan) way in
      let says_under : SaysAs here image items under (plan_up_to rules.limits.base plan to.state.machine.taken) to =
      says_until here image items under (plan_up_to rules.limits.base plan to.state.machine.taken) now to begins on one
      (λ count few. up_to_same rules.limits.base plan now.state.machine.taken count few ∙ sym (up_to_same rules.limits.base plan to.state.machine.taken count (let more = took.taken in omega (arith, few, more)))) in
      let says : SaysAs here image items g.story.survivor.plan (plan_up_to rules.limits.base plan to.state.machine.taken) to = subst (λ (p : List Override). SaysAs here image items p (plan_up_to rules.limits.base plan to.state.machine.taken) to) there.plan says_under in
      let served = says_now here image items g.story.survivor.plan (plan_up_to rules.limits.base plan to.state.machine.taken) to says there.served in
      record {
        stands =
            rebased {rules = here} {session = after} {events = events_in (heard_alone events)} {had = held handed.counts to.state.sends} handed.counts (plan_up_to rules.limits.base plan to.state.machine.taken) (with_env there) (sym (append-nil (events_in (heard_alone events)))) refl says
            (replies_after here [] (followed_before rules.limits handed events to) (sym (append-nil (events_in (heard_alone events)))) (ap (held handed.counts) took.sends ∙ sym (append-nil (held handed.counts now.state.sends))) (λ conn. refl) replies)
            g.passed.no_trial (in_force_here rules.limits.base plan to.state.machine.taken after env until);
        env = env;
        until = until;
        some_keep = f.some_keep;
        before = not_next rules.limits (items_in rules.bounds (heard_alone events)) image handed now to f.before not_yet (whole_following rules image handed events now alone now begins) one;
        asked = f.asked;
      }

  -- It is released where its run has reached what was handed over: what it followed is a part before an ordinary session, which has just begun there, once its environment is that of the report from there on.
  pub released_following : {rules : Rules} {image : Image} {handed : Handed} {events : List LinkEvent} {now : Path} {began : Since} {phases : Phases} {old : SessionState R} {env : Env} {until : ℕ} → rules.bounds.before ≡ nothing_before → IsFollowing rules image handed events now began phases old
      → (stand : Stand rules.limits (plan_of rules.limits.keep handed.episodes) now) → HasReached rules.limits handed now stand → IsInForce rules.limits.base (plan_of rules.limits.keep handed.episodes) now.state.machine.taken env until
      → HasFollowed rules image handed events now × HasJustBegun (rules_behind rules handed events now) image began phases (record old { env = env; until = until })
  released_following {rules = rules} {image = image} {handed = handed} {events = events} {now = now} {began = began} {phases = phases} {old = old} {env = env} {until = until} alone f stand reached in_force =
      let plan : List Override = plan_of rules.limits.keep handed.episodes in
      let here : Rules = rules_following rules handed events now in
      let items : List Item = items_in here.bounds [] in
      let under : List Override = plan_up_to rules.limits.base plan now.state.machine.taken in
      let says : SaysAs here image items under plan now = says_alike here image items under plan now (λ count few. up_to_same rules.limits.base plan now.state.machine.taken count few) in
      let there : StandsThere here image began phases (record { plan = under; begun = now; now = now }) [] old = itself_there {rules = here} f.stands in (
        record {
          ran = whole_following rules image handed events now alone now f.stands.sound.carries.served;
          stand = stand;
          reached = reached;
          first = f.before;
          asked = f.asked;
        },
        rebased {rules = here} {session = record old { env = env; until = until }} {events = events_in (heard_alone events)} {had = held handed.counts now.state.sends} handed.counts plan (with_env there) (sym (append-nil (events_in (heard_alone events)))) refl says
            (replies_after here [] (came_before (events_in (heard_alone events)) (held handed.counts now.state.sends) plan now) (sym (append-nil (events_in (heard_alone events)))) (sym (append-nil (held handed.counts now.state.sends))) (λ conn. refl) f.stands.replies)
            f.stands.no_trial in_force,
      )

-- the start sent nothing, and took nothing
pub start_sends : (image : Image) → (origin image).state.sends ≡ []
unfolding start start_machine
start_sends image = refl

module _ {R : Type 0} where
  -- A session that was begun, with the start as its checkpoint, follows once its environment is that of the report.
  pub started_following : {rules : Rules} {image : Image} (handed : Handed) {began : Since} {seen : Seen} {session : SessionState R} → rules.bounds.before ≡ nothing_before → 1 ≤ rules.limits.keep → (g : IsGoing rules image began seen session) → IsMarked began seen.told → session.steps ≡ 0
      → IsFollowing rules image handed [] (origin image) began seen.phases (record session { env = env_at rules.limits.base (plan_of rules.limits.keep handed.episodes) 0; until = 1 })
  started_following {rules = rules} {image = image} handed {began = began} {seen = seen} {session = session} alone some g mark none =
      let plan : List Override = plan_of rules.limits.keep handed.episodes in
      let items : List Item = items_in rules.bounds [] in
      let to : Path = g.story.survivor.now in
      let there : StandsThere rules image began seen.phases g.story.survivor [] session = going_there g mark in
      let is : g.story ≡ story_alone g.story.survivor [] = marked_story g.told mark in
      let replies : KeepsReplies rules.bounds [] None to.state.sends session.replies = subst (λ (s : Story). KeepsReplies rules.bounds (entries s) None (sends s) session.replies) is g.passed.replies in
      let from : g.story.survivor.begun ≡ origin image = there.begun ∙ ap (λ (b : Before). unwrap_or b.stood (origin image)) alone in
      let way : Served rules.limits items g.story.survivor.plan (origin image) to = subst (λ (p : Path). Served rules.limits items g.story.survivor.plan p to) from there.way in
      let no_steps : (origin image).steps ≡ 0 = refl in
      let here : origin image ≡ to = same_steps rules.limits items g.story.survivor.plan (origin image) to way (omega (arith, g.answers.steps, none)) in
      let after : SessionState R = record session { env = env_at rules.limits.base plan 0; until = 1 } in
      let taken : to.state.machine.taken ≡ 0 = ap (λ (p : Path). p.state.machine.taken) (sym here) ∙ start_taken image (origin image) refl in
      let sends_none : to.state.sends ≡ [] = ap (λ (p : Path). p.state.sends) (sym here) ∙ start_sends image in
      let env : after.env ≡ env_at rules.limits.base plan to.state.machine.taken = ap (env_at rules.limits.base plan) (sym taken) in
      let until : after.until ≡ to.state.machine.taken + 1 = omega (arith, taken) in
      let no_events : [] ≡ events_of rules.bounds [] = sym (events_alone rules.bounds [] alone) in
      let had : held handed.counts to.state.sends ≡ passed_in rules.bounds [] = ap (held handed.counts) sends_none ∙ (sym (none_had rules.bounds alone) ∙ sym (append-nil rules.bounds.before.had)) in
      subst (λ (p : Path). IsFollowing rules image handed [] p began seen.phases after) (sym here)
      (record {
        stands =
            rebased {rules = rules} {session = after} {events = []} {had = held handed.counts to.state.sends} handed.counts (plan_up_to rules.limits.base plan to.state.machine.taken) (with_env there) no_events refl
            (says_start rules image items g.story.survivor.plan (plan_up_to rules.limits.base plan to.state.machine.taken) to (ap (λ (p : Path). p.steps) (sym here) ∙ no_steps))
            (replies_after rules [] (followed_before rules.limits handed [] to) no_events had (λ conn. refl) replies) g.passed.no_trial (in_force_here rules.limits.base plan to.state.machine.taken after env until);
        env = env;
        until = until;
        some_keep = some;
        before = λ path stand served less. absurd (let at = ap (λ (p : Path). p.steps) here in omega (arith, less, at, no_steps));
        asked = λ front back event split. absurd (let no : length {A = LinkEvent} [] ≡ length (front ++ event ∷ back) = ap length split in omega (arith, no, length-append front (event ∷ back)));
      })
