-- Where a session stands at its begin, and after each turn.
use Rattle.item_log.specs.Log as logs
use Rattle.reply_ledger.specs.Inside as I
use Rattle.reply_ledger.specs.Shows as S
use Rattle.reply_ledger.specs.Ledger as ledgers
use Rattle.guest_cpu.specs.Laws.{IsStart}
use Rattle.std.specs.Option.{unwrap_or}
use Rattle.rx_base.proofs.Budgets.{few_in_all}
use Rattle.run_history.specs.Machine as M
use Rattle.session_history.specs.Heeding as H
use Rattle.session_history.proofs.Accounts.{nothing_is_sound}
use Rattle.session_state.proofs.Lemmas.{in_force_by, none_noted, tells_none, watched_kept, known_same}
use Rattle.session_state.proofs.Terms.{Bool, List, None, Option, [], ap, arith, drop, false, inl, inr, length, refl, subst, suc, sym, take, true, zero, ℕ, ◌*◌, ◌++◌, ◌+◌, ◌-◌, ◌/◌, ◌<◌, ◌^◌, ◌∙◌, ◌∷◌, ◌≡◌, ◌≤◌, replicate, slice_get, MAX_ITEMS, Send, tells_nothing, Grew, IsFresh, Seen, Heap, Framing, Log, Ledger, no_replies, Image, Answer, no_connections, Path, origin, runs_start, CpuState, standing_of, Standing, served_same, serving_first, items_in, nothing_before, KeepsReplies, Rules, Stands, CanGive, Try, Noted, Shown, recovered_first, in_force_none, oldest_kept, handled_first, none_followed, alone, keeping_by, stands_of, KeepsRing, Options, keeping_for, rules_in, rules_of, IsBegun, SessionState, AreTables, HasWatched, IsTrimmed, LeavesBy, keeping_of, IsBetween, Since, Story, told_since, GoesFurther, HasSameFrame, HasServedLink, HasServedOn, IsCounted, MayServe, StaysKnown, outcome_of, rules_by}
use Rattle.session_state.proofs.ending.LeavingLemmas.{start_trimmed}
use Rattle.session_state.proofs.standing.FrameLemmas.{same_rules}

-- the story of no event
abbrev first_story : Image → Story
first_story image = record { earlier = []; recoveries = []; survivor = record { plan = []; begun = origin image; now = origin image }; since = [] }

-- of no send there is none
none_stands : {send : Send} → Stands [] send → ⊥
none_stands {send = send} stands = by stands.earlier stands.split
  where
    by : (earlier : List Send) → [] ≡ earlier ++ send ∷ stands.later → ⊥
    by [] same = cc
    by (first ∷ more) same = cc

-- where no connection is open, none is
none_open : (count conn : ℕ) → unwrap_or (slice_get (replicate count false) conn) false ≡ false
none_open zero conn = refl
none_open (suc count) zero = refl
none_open (suc count) (suc conn) = none_open count conn

none_known : (conn : ℕ) → unwrap_or (slice_get no_connections conn) false ≡ false
unfolding no_connections
none_known conn = none_open 4096 conn

-- a ledger without replies is that of an empty journal with nothing before it
first_replies : (framing : Framing) (max_items max_events : ℕ) → KeepsReplies (record { framing = framing; max_items = max_items; max_events = max_events; before = nothing_before }) [] None [] no_replies
unfolding H.heeded_behind I.earlier_at S.stamped_of ledgers.connection_of ledgers.stamped_to ledgers.is_open
first_replies framing max_items max_events = record {
  shows = record { counted = omega arith; kept = refl; opened = λ conn none. refl; earlier = λ conn. refl; passed = λ conn. refl };
  opened = λ conn. refl;
  may = λ conn. refl;
  gone = λ conn is. absurd (let no : ⊥ = cc in no);
  given_up = λ conn may. omega arith;
  sendable = tt;
}

-- how many instructions were counted behind a turn that aren't of the survivor's run: so many as all of them are more
abbrev pub lost_then : ℕ → ℕ → ℕ → ℕ → ℕ → ℕ
lost_then lost live steps before after = (lost + live + after) - (steps + before)

pub lost_counts : (lost live steps before after : ℕ) → steps + before ≤ after + live → lost_then lost live steps before after + steps + before ≡ lost + live + after
lost_counts lost live steps before after least = omega (arith, least)

-- the same beside those of before
pub lost_beside : (base lost live steps before after : ℕ) → steps + before ≤ after + live → base + lost_then lost live steps before after + steps + before ≡ base + lost + live + after
lost_beside base lost live steps before after least = omega (arith, least)

-- and with what the watch has counted: before the first turn, where the session had done some already, before this one, and behind it
pub lost_all : (old first lost live steps before after began ran later : ℕ) → began + before + old ≡ ran + first + (lost + live) → steps + (later + before) ≤ ran + after + live
    → began + after + old ≡ later + first + (lost_then lost live steps (later + before) (ran + after) + steps)
lost_all old first lost live steps before after began ran later counted least = omega (arith, counted, least)

-- so many were counted at an end
pub lost_last : (base old first after began later lost steps : ℕ) → began + after + old ≡ later + first + (lost + steps) → base + ((began + after + old) - (later + first)) ≡ base + lost + steps
lost_last base old first after began later lost steps all = omega (arith, all)

module _ {R : Type 0} where
  -- its guest stands at the start
  pub starts_at : {image : Image} {session : SessionState R} → IsBegun image session.options session.cpu.rule session → session.cpu.slots.live ≡ standing_of (origin image)
  starts_at {image = image} begun = let start : IsStart image 0 = runs_start image 0 in begun.cpu.live_is ∙ sym start.stands

  -- it allows what its options say: nothing came before it
  pub begun_rules : (permits : R → Heap → ℕ → ℕ → Bool) {image : Image} {options : Options} {rule : R} {session : SessionState R} → IsBegun image options rule session → rules_by permits session ≡ rules_of options (permits rule)
  begun_rules permits begun = λ i. rules_in (begun.options_are i) (begun.nothing_came i) (begun.hold_is i) (permits (begun.cpu.rule_is i))

  -- it keeps its checkpoints as its options say
  pub begun_keeping : {image : Image} {session : SessionState R} → IsBegun image session.options session.cpu.rule session → keeping_of session ≡ keeping_for session.options
  begun_keeping {image = image} {session = session} begun =
      let same : image.window / 4096 ≡ session.options.window / 4096 = ap (λ n. n / 4096) (sym begun.window) in
      λ i. record { ring = begun.cpu.count_is i; every = session.options.every; pages = (begun.cpu.pages_are ∙ same) i; frames = (begun.cpu.frames_are ∙ ap (λ n. session.options.frames * n) same) i }

  pub starts_none : {image : Image} {session : SessionState R} → IsBegun image session.options session.cpu.rule session → session.cpu.slots.live.guest.machine.taken ≡ 0
  unfolding M.start M.start_machine
  starts_none begun = ap (λ (s : Standing). s.guest.machine.taken) begun.cpu.live_is

  -- it begins with its start as its first checkpoint
  starts_saved : (permits : R → Heap → ℕ → ℕ → Bool) {image : Image} {seen : Seen} {noted : Noted} {tables : Option (List (List Try))} {session : SessionState R} {cpu : CpuState R} → IsBegun image session.options session.cpu.rule session → IsFresh seen.phases
      → KeepsRing (rules_of session.options (permits session.cpu.rule)) image [] [] (origin image) (origin image ∷ []) cpu session.log session.replies → cpu.slots.live ≡ session.cpu.slots.live
      → stands_of cpu.slots.saved ≡ alone 0 cpu.slots.pages → IsBetween (rules_of session.options (permits session.cpu.rule)) image (told_since seen.told noted noted tables tables 0) seen (record session { cpu = cpu })
  unfolding M.start M.start_machine H.heeded_behind
  starts_saved permits {image = image} {noted = noted} {tables = tables} {session = session} {cpu = cpu} begun fresh keeps live stands =
      let rules : Rules = rules_of session.options (permits session.cpu.rule) in
      let start : IsStart image rules.limits.budget = runs_start image rules.limits.budget in
      record {
        going = record {
          story = first_story image;
          told = record {
            serving = serving_first rules image (nothing_is_sound rules image refl);
            way = served_same rules.limits (items_in rules.bounds []) [] (origin image);
            tells = tells_nothing _;
            recovered = recovered_first rules image;
            counted = refl;
            episodes = (none_noted {noted = noted}).episodes_more;
            tables = tells_none tables (AreTables (rules_of session.options (permits session.cpu.rule)) [] [] []) tt;
          };
          answers = record {
            low = omega (arith, begun.none_recorded);
            recorded = subst (λ n. Grew noted.choices noted.choices (take n [])) (sym begun.none_recorded) (none_noted {noted = noted}).choices_more;
            choices = begun.no_choices ∙ sym (ap (λ n. drop n []) begun.none_recorded);
            unnoted = refl;
            taken = begun.no_items;
            steps = begun.no_steps;
          };
          goes = record {
            lives = start.lives;
            guest = live ∙ (begun.cpu.live_is ∙ sym start.stands);
            bounded = start.bounded;
            few = omega arith;
            within = λ conn may. absurd (let none : unwrap_or (slice_get no_connections conn) false ≡ false = none_known conn in let no : ⊥ = cc in no);
            items = record { all_heeded = refl; shows = begun.shows; most = ap (λ (log : logs.Log). log.max_items) begun.log };
            events = begun.no_events;
            phases_are = fresh;
          };
          saved = record { paths = origin image ∷ []; ring = keeps; early = (omega (arith, begun.none_recorded), tt); requests = inl (handled_first rules image (keeping_by session.options.every cpu.slots) [] [] (first_story image).survivor (stands_of cpu.slots.saved) (none_followed rules image (keeping_by session.options.every cpu.slots) refl).0 stands); in_force = in_force_by begun.based begun.until_none (in_force_none rules.limits.base 0) };
          past = inl (let none : session.until ≡ 0 = begun.until_none in let some = begun.in_range.some_keep in omega (arith, none, some));
          passed = record { replies = subst (λ (ledger : Ledger). KeepsReplies rules.bounds [] None [] ledger) (sym begun.replies) (first_replies session.options.frame session.options.max_items session.options.max_events); no_trial = ap (λ (ledger : Ledger). ledger.trial) begun.replies; done = λ send stands due. absurd due };
          latest = λ last found. absurd (let no : ⊥ = cc in no);
        };
        due = λ send stands is taken. absurd (none_stands stands);
      }

  pub starts_between : (permits : R → Heap → ℕ → ℕ → Bool) {image : Image} {seen : Seen} {noted : Noted} {tables : Option (List (List Try))} {session after : SessionState R} → IsBegun image session.options session.cpu.rule session → IsFresh seen.phases
      → ((rules : Rules) → KeepsRing rules image [] [] (origin image) (origin image ∷ []) after.cpu session.log session.replies) → after ≡ record session { cpu = after.cpu } → after.cpu.slots.live ≡ session.cpu.slots.live
      → stands_of after.cpu.slots.saved ≡ alone 0 after.cpu.slots.pages → IsBetween (rules_by permits session) image (told_since seen.told noted noted tables tables 0) seen after
  starts_between permits {image = image} {seen = seen} {noted = noted} {tables = tables} {session = session} {after = after} begun fresh keeps same live stands =
      subst (λ (s : SessionState R). IsBetween (rules_by permits session) image (told_since seen.told noted noted tables tables 0) seen s) (sym same)
      (subst (λ (rules : Rules). IsBetween rules image (told_since seen.told noted noted tables tables 0) seen (record session { cpu = after.cpu })) (sym (begun_rules permits begun))
      (starts_saved permits begun fresh (keeps (rules_of session.options (permits session.cpu.rule))) live stands))

  -- the counts of a session between two events are its guest's
  pub between_counted : {rules : Rules} {image : Image} {began : Since} {seen : Seen} {session : SessionState R} → IsBetween rules image began seen session → IsCounted session
  between_counted b = record {
    taken = b.going.answers.taken ∙ sym (ap (λ (s : Standing). s.guest.machine.taken) b.going.goes.guest);
    steps = b.going.answers.steps ∙ sym (ap (λ (s : Standing). s.steps) b.going.goes.guest);
  }

  -- with another number that is the same
  pub between_lost : {rules : Rules} {image : Image} (began : Since) {seen : Seen} {session : SessionState R} {lost : ℕ} → began.lost ≡ lost → IsBetween rules image began seen session → IsBetween rules image (record began { lost = lost }) seen session
  between_lost {rules = rules} {image = image} began {seen = seen} {session = session} same = subst (λ n. IsBetween rules image (record began { lost = n }) seen session) same

  -- how far a session has come that serves on
  pub record HasTurned (Outside : Type 0) (permits : R → Heap → ℕ → ℕ → Bool) (before seen : Seen) (shown now : Shown) (tables_before tables : Option (List (List Try))) (first last : ℕ) (old new : SessionState R) : Type 0 where
    pub lost : ℕ
    pub stands : (image : Image) (began : Since) → IsBetween (rules_by permits old) image (record began { noted = shown.told; tables = tables_before }) before old
        → IsBetween (rules_by permits old) image (record began { noted = now.told; tables = tables; lost = began.lost + lost }) seen new
    pub may : MayServe seen new.replies
    pub frame : HasSameFrame old new
    pub known : StaysKnown before.coming seen.coming
    pub marked : IsCounted new
    pub trimmed : IsTrimmed new
    pub keeping : keeping_of new ≡ keeping_of old
    pub counted : last + old.steps ≡ first + (lost + new.cpu.slots.live.steps)
    pub no_takes_fell : before.counts.takes ≤ seen.counts.takes
    pub no_gives_fell : before.counts.gives ≤ seen.counts.gives
    pub no_faults_fell : shown.faults ≤ now.faults
    pub outside : Outside

  -- it gives to each connection that is open: none was opened
  pub starts_giving : {image : Image} {seen : Seen} {session : SessionState R} → IsBegun image session.options session.cpu.rule session → seen.gives ≡ true → CanGive seen session.replies
  unfolding ledgers.is_open ledgers.connection_of
  starts_giving {session = session} begun still = record {
    gives_still = still;
    connected = λ conn is. absurd (let none : ledgers.is_open session.replies.connections conn ≡ false = ap (λ (ledger : Ledger). ledgers.is_open ledger.connections conn) begun.replies in let no : ⊥ = cc in no);
  }

  -- nothing lies before its first checkpoint
  pub starts_trimmed : {rules : Rules} {image : Image} {session after : SessionState R} → IsBegun image session.options session.cpu.rule session
      → KeepsRing rules image [] [] (origin image) (origin image ∷ []) after.cpu session.log session.replies → after ≡ record session { cpu = after.cpu } → IsTrimmed after
  unfolding M.start M.start_machine
  starts_trimmed {image = image} {after = after} begun keeps same =
      let first : after.log.first ≡ 0 = ap (λ (s : SessionState R). s.log.first) same ∙ ap (λ (l : logs.Log). l.first) begun.log in
      let recorded : after.recorded ≡ 0 = ap (λ (s : SessionState R). s.recorded) same ∙ begun.none_recorded in
      let sends : after.replies.first ≡ 0 = ap (λ (s : SessionState R). s.replies.first) same ∙ ap (λ (l : Ledger). l.first) begun.replies in
      start_trimmed (oldest_kept keeps) (origin image) (ap (slice_get (origin image ∷ [])) (let none : length (origin image ∷ []) - 1 ≡ 0 = omega arith in none)) first recorded (omega (arith, sends))

  pub frame_then : {old mid new : SessionState R} → HasSameFrame old mid → HasSameFrame mid new → HasSameFrame old new
  frame_then first second = record { options = second.options ∙ first.options; rule = second.rule ∙ first.rule; before = second.before ∙ first.before; hold = second.hold ∙ first.hold }

  pub between_under : {image : Image} {began : Since} {seen : Seen} {session : SessionState R} {first second : Rules} → first ≡ second → IsBetween first image began seen session → IsBetween second image began seen session
  between_under {image = image} {began = began} {seen = seen} {session = session} {first = first} same = subst (λ (rules : Rules). IsBetween rules image began seen session) same

  -- What a session that was begun has served, by how it served on from its start: nothing was lost, and no instruction done.
  pub served_begun : (permits : R → Heap → ℕ → ℕ → Bool) {before seen : Seen} {shown now : Shown} {counted : ℕ} {tables_before tables : Option (List (List Try))} {old mid new : SessionState R} {answered : Answer} {first : Image}
      → IsBegun first old.options old.cpu.rule old → HasSameFrame old mid → keeping_of mid ≡ keeping_of old
      → ((image : Image) → IsBegun image old.options old.cpu.rule old → IsBetween (rules_by permits old) image (told_since before.told shown.told shown.told tables_before tables_before 0) before mid)
      → HasServedOn (rules_by permits mid) before seen shown now counted tables_before tables mid new answered → HasServedLink (rules_by permits old) before seen shown now counted tables_before tables old new answered
  served_begun permits {before = before} {seen = seen} {shown = shown} {now = now} {counted = counted} {tables_before = tables_before} {tables = tables} {old = old} {mid = mid} {new = new} start frame kept stands h =
      record { why = h.why; is = h.is; served = by; keeping = h.keeping ∙ (kept ∙ begun_keeping start); link = h.link; notes = h.notes }
    where
      by : (image : Image) → IsBegun image old.options old.cpu.rule old
          → (watched : HasWatched (rules_by permits old) image (keeping_for old.options) before seen (outcome_of h.why new) shown.told now.told counted tables_before tables) × LeavesBy (rules_by permits old) image shown.told.unnoted now.told.unnoted watched.recovered.telling new h.why
      by image begun =
          let same = same_rules permits frame in
          watched_kept (λ telling. LeavesBy (rules_by permits old) image shown.told.unnoted now.told.unnoted telling new h.why) (kept ∙ begun_keeping begun)
          (subst
          (λ (rules : Rules). (watched : HasWatched rules image (keeping_of mid) before seen (outcome_of h.why new) shown.told now.told counted tables_before tables) × LeavesBy rules image shown.told.unnoted now.told.unnoted watched.recovered.telling new h.why) same
          (subst
          (λ n. (watched : HasWatched (rules_by permits mid) image (keeping_of mid) before seen (outcome_of h.why new) shown.told now.told n tables_before tables) × LeavesBy (rules_by permits mid) image shown.told.unnoted now.told.unnoted watched.recovered.telling new h.why)
          (let none : 0 + counted ≡ counted = omega arith in none)
          (h.served image (told_since before.told shown.told shown.told tables_before tables_before 0) before (known_same refl) (between_under (sym same) (stands image begun)))))

  -- and so many were counted
  pub counted_begun : (ran last later first : ℕ) {rules : Rules} {before seen : Seen} {shown now : Shown} {tables_before tables : Option (List (List Try))} {old new : SessionState R} {answered : Answer} {done : ℕ} → done ≡ 0
      → HasServedLink rules before seen shown now ((ran + last + done) - (later + first)) tables_before tables old new answered → HasServedLink rules before seen shown now ((ran + last) - (later + first)) tables_before tables old new answered
  counted_begun ran last later first {rules = rules} {before = before} {seen = seen} {shown = shown} {now = now} {tables_before = tables_before} {tables = tables} {old = old} {new = new} {answered = answered} {done = done} none h =
      let same : (ran + last + done) - (later + first) ≡ (ran + last) - (later + first) = omega (arith, none) in
      subst (λ n. HasServedLink rules before seen shown now n tables_before tables old new answered) same h

  -- Its guest has done few instructions: so many come between two items, and so many items.
  pub between_fits : {rules : Rules} {image : Image} {began : Since} {seen : Seen} {session : SessionState R} → rules.limits.budget ≤ 2 ^ 36 → rules.bounds.max_items ≤ MAX_ITEMS → IsBetween rules image began seen session → session.cpu.slots.live.steps < 18446744073709551616
  between_fits {rules = rules} budget items b =
      let now : Path = b.going.story.survivor.now in
      let few : now.state.machine.taken ≤ MAX_ITEMS = let most = b.going.goes.few in omega (arith, most, items) in
      let product : now.state.machine.taken * (rules.limits.budget + 1) < 2 ^ 57 = few_in_all now.state.machine.taken rules.limits.budget few (omega (arith, budget)) in
      let live = ap (λ (s : Standing). s.steps) b.going.goes.guest in
      let since = b.going.goes.bounded.since in
      let steps = b.going.goes.bounded.steps in
      omega (arith, live, since, steps, product, budget)

  -- What is left to do gets less: of failures, or of instructions before the next one.
  pub turned_smaller : (old mid new : SessionState R) → mid.options ≡ old.options → mid.cpu.slots.live.steps < 18446744073709551616 → GoesFurther mid new
      → (old.options.max_items + old.options.keep + 1 - new.until) * 18446744073709551617 + (18446744073709551616 - new.cpu.slots.live.steps) < (old.options.max_items + old.options.keep + 1 - mid.until) * 18446744073709551617 + (18446744073709551616 - mid.cpu.slots.live.steps)
  turned_smaller old mid new options fits (inl further) =
      let same : old.options.max_items + old.options.keep + 1 - new.until ≡ old.options.max_items + old.options.keep + 1 - mid.until = ap (λ n. old.options.max_items + old.options.keep + 1 - n) further.0 in
      subst (λ n. n * 18446744073709551617 + (18446744073709551616 - new.cpu.slots.live.steps) < (old.options.max_items + old.options.keep + 1 - mid.until) * 18446744073709551617 + (18446744073709551616 - mid.cpu.slots.live.steps)) (sym same)
      (let later = further.1 in omega (arith, later, fits))
  turned_smaller old mid new options fits (inr adopted) =
      let most : mid.options.max_items ≡ old.options.max_items = ap (λ o. o.max_items) options in
      let keeps : mid.options.keep ≡ old.options.keep = ap (λ o. o.keep) options in
      let past = adopted.past in
      let high = adopted.most in
      omega (arith, past, high, most, keeps)
