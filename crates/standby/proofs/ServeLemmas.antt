-- A follower serves: what each event of its guest makes of it.
use Rattle.std.specs.declared.alloc.AllocError.{AllocError}
use Rattle.links.specs.declared.journal.Entry.TheVariants as entry
use Rattle.alloc_env.specs.declared.env.Env.{Env}
use Rattle.run_history.specs.declared.answer.Answer.TheVariants as answer
use Rattle.run_history.specs.declared.answer.Cause.TheVariants.{BadAccess, Hang}
use Rattle.run_history.specs.Touching.{touched}
use Rattle.run_history.proofs.Repeats.{repeated_join}
use Rattle.guest_cpu.specs.declared.event.Event.{Event}
use Rattle.guest_cpu.specs.declared.event.Event.TheVariants as event
use Rattle.guest_cpu.specs.Runs.{RunsOn}
use Rattle.guest_cpu.specs.Running.{RunsBy}
use Rattle.guest_cpu.proofs.OneMore.{one_more}
use Rattle.guest_cpu.proofs.RunLemmas.{runs_serve}
use Rattle.guest_cpu.proofs.TakeLemmas.{asks_wants, takes_serve}
use Rattle.item_log.specs.Log as logs
use Rattle.replay.specs.Giving as giving
use Rattle.rx_base.proofs.Composing.{rose_later}
use Rattle.standby.proofs.Terms.{Bool, List, None, Option, Some, [], ap, append-nil, append_assoc, arith, cond, false, inl, inr, leb, length, length-append, refl, subst, suc, sym, true, zero, ℕ, ◌++◌, ◌+◌, ◌-◌, ◌<◌, ◌^◌, ◌∙◌, ◌∷◌, ◌≡◌, ◌≤◌, both_ways, leb-false, option_and_then_some, same_Some, Err, Ok, Result, slice_get, ◌⊎◌, Item, MAX_ITEMS, Prefix, Send, sent_to, Entry, LinkEvent, pieces_in-append, Coming, Open, Piece, Tells, Told, events_in, pieces_in, Seen, Choice, Plain, items_of, IsItemOf, Image, Answer, Cause, received_keeps, run_more, served_more, Fails, Wants, start, does, run, Guest, IsLaidOut, Limits, Path, Served, does_with, grant, guest_of, is_refused, planned_next, serve, serves, taken_standing, standing_of, AreCounted, Live, Standing, marks_of, turn, heeded, items_in, received, received_is, Recorded, count_of, leaves_then, HasGoneOn, AreGiven, AreOpen, HasNoFault, LinkTurns, Stage, has, stage_of, LinkAnswers, bounds_of, Follower, AreAwaited, HasHeard, HasStopped, HearsMore, IsAwaited, IsLater, KeepsRun, Unheard, HasCaughtUp, kept_to, AllGiven, PartGiven, missing, output_of, HasCutOff, HasPassed, IsPassFault, KeepsGuest, NoneTook, PassesBy, StandsHeard, one_send, AreServed, AreTold, AsksNext, EndsBy, HasServed, IsFollowed, IsRecordsEnd, MayServe, WasServed, plain_limits}
use Rattle.standby.specs.Running.{HasRoom, IsServing, IsWanting, NotesChoice, ServesBy}
use Rattle.standby.proofs.GiveLemmas.{before_none}
use Rattle.standby.proofs.FollowLemmas.{heard_ran, heard_takes}

-- ---- one run

-- a record's end, with more items
end_more : {image : Image} {recording : Recorded} {items later : List Item} {path : Path} (more : List Item) → later ≡ items ++ more → IsRecordsEnd image recording items path → IsRecordsEnd image recording later path
end_more {image = image} {items = items} {later = later} {path = path} more is ends = record {
  ran = record {
    ran = subst (λ (l : List Item). run l path.choices (start image) path.steps ≡ Some path.state) (sym is)
        (subst (λ (all : List Choice). run (items ++ more) all (start image) path.steps ≡ Some path.state) (append-nil path.choices) (run_more items more path.choices [] (start image) path.state path.steps ends.ran.ran));
    used = ends.ran.used;
  };
  steps = ends.steps;
  lines = ends.lines;
  all = ends.all;
  taken = ends.taken;
  laid_out = ends.laid_out;
  bare = ends.bare;
}

-- a run that follows, with more items
abbrev followed_more : {image : Image} {recording : Recorded} {budget : ℕ} {items later : List Item} {path : Path} (more : List Item) → later ≡ items ++ more → IsFollowed image recording budget items path → IsFollowed image recording budget later path
followed_more {budget = budget} {items = items} {path = path} more is followed = record {
  seam = followed.seam;
  is_seam = end_more more is followed.is_seam;
  served = record {
    more = followed.served.more;
    ran = subst (λ (l : List Item). serve (plain_limits budget) l [] followed.seam followed.served.more ≡ Some path) (sym is) (served_more (plain_limits budget) items more [] followed.seam path followed.served.more followed.served.ran);
  };
}

-- and one that goes on
abbrev followed_on : {image : Image} {recording : Recorded} {budget : ℕ} {items : List Item} {path now : Path} → IsFollowed image recording budget items path → Served (plain_limits budget) items [] path now → IsFollowed image recording budget items now
followed_on {budget = budget} {items = items} {path = path} {now = now} followed served = record {
  seam = followed.seam;
  is_seam = followed.is_seam;
  served = record {
    more = followed.served.more + served.more;
    ran = repeated_join (planned_next (plain_limits budget) items []) followed.seam path now followed.served.more served.more followed.served.ran served.ran;
  };
}

-- so many instructions that take no item
record HasCounted (budget n : ℕ) (first second : Path) : Type 0 where
  steps : second.steps + first.state.machine.since ≡ first.steps + second.state.machine.since
  since : first.state.machine.since ≤ 2 ^ 62 → budget ≤ 2 ^ 62 → second.state.machine.since ≤ 2 ^ 62

counted : (budget n : ℕ) (first second : Path) → serve (plain_limits budget) [] [] first n ≡ Some second → second.state.ended ≡ None → HasCounted budget n first second
counted budget zero first second ran lives = subst (HasCounted budget 0 first) (same_Some first second ran) (record { steps = refl; since = λ low _. low })
counted budget (suc n) first second ran lives =
    option_and_then_some (planned_next (plain_limits budget) [] []) (serve (plain_limits budget) [] [] first n) second ran (λ mid before goes.
    let one = one_more (plain_limits budget) Plain mid second goes in
    let earlier = counted budget n first mid before one.lives in
    let since = one.moves.since lives in
    record {
      steps = omega (arith, earlier.steps, one.steps, since);
      since = λ low few. omega (arith, one.early, since, few);
    })

-- ---- where the guest ran to

module _ {image : Image} {recorded : Recorded} {budget : ℕ} {counts : List (ℕ × ℕ)} {began : Told} {seen : Seen} {from : List Entry} {old : Follower} (is : IsServing image recorded budget counts began seen from old) where
  -- a guest ran to an event
  abbrev pub ran_to : (base : ℕ) (before after : Live) (result : Result Event AllocError) → before.standing ≡ old.player.cpu.slots.live → RunsBy event.Emits (turn (plain_limits budget) Plain) base before result after → RunsOn (plain_limits budget) [] [] is.path result after.standing
  ran_to base before after result here runs =
      runs_serve (plain_limits budget) [] [] Plain base is.path before after result (ap (λ (s : Standing). s.ended) is.stands ∙ is.lives) refl (here ∙ sym is.stands) runs

  abbrev lifted : {now : Path} → Served (plain_limits budget) [] [] is.path now → Served (plain_limits budget) (items_in (bounds_of recorded) is.entries) [] is.path now
  lifted {now = now} served = record { more = served.more; ran = served_more (plain_limits budget) [] (items_in (bounds_of recorded) is.entries) [] is.path now served.more served.ran }

-- what was given stays where nothing is sent
all_silent : {counts : List (ℕ × ℕ)} {events : List LinkEvent} {seam path now : Path} {pieces : List Piece} → now.state.sends ≡ path.state.sends → AllGiven counts events seam path pieces → AllGiven counts events seam now pieces
all_silent same all = record { later = all.later; sent = same ∙ all.sent; given = all.given }

part_of : {counts : List (ℕ × ℕ)} {events : List LinkEvent} {seam path : Path} {pieces : List Piece} → AllGiven counts events seam path pieces → PartGiven counts events seam path pieces
part_of {counts = counts} {events = events} {seam = seam} {pieces = pieces} all = record {
  later = all.later;
  sent = all.sent;
  front = missing counts events (output_of seam) ++ all.later;
  is_front = ([], append-nil (missing counts events (output_of seam) ++ all.later));
  given = giving.All (missing counts events (output_of seam) ++ all.later) pieces all.given;
  but_last = inl (inr refl);
}

-- the first of one send are none, or it
none_or_it : (front : List Send) (send : Send) → Prefix front (send ∷ []) → (front ≡ []) ⊎ (front ≡ send ∷ [])
none_or_it [] send first = inl refl
none_or_it (one ∷ front) send first = let same : one ∷ (front ++ first.0) ≡ send ∷ [] = first.1 in let none : front ≡ [] = before_none front first.0 (cc) in inr (cc)

-- a run that has come to its place, of which a follower has an answer
pub record IsPlace (image : Image) (recorded : Recorded) (budget : ℕ) (counts : List (ℕ × ℕ)) (began : Told) (seen : Seen) (from : List Entry) (entries : List Entry) (path : Path) (live : Standing) : Type 0 where
  pub since : List Entry
  pub behind : entries ≡ from ++ since
  pub tells : Tells began seen.told entries
  pub followed : IsFollowed image recorded budget (items_in (bounds_of recorded) entries) path
  pub few : (conn : ℕ) → count_of counts conn ≤ length (sent_to conn followed.seam.state.sends)
  pub stands : standing_of path ≡ live
  pub asked : AreServed image recorded budget counts from entries

-- it has an answer where all was given
pub served_all : {image : Image} {recorded : Recorded} {budget : ℕ} {counts : List (ℕ × ℕ)} {began : Told} {seen : Seen} {from entries : List Entry} {path : Path} (end : Answer) (new : Follower)
    → (place : IsPlace image recorded budget counts began seen from entries path new.player.cpu.slots.live) → AllGiven counts (events_in from) place.followed.seam path (pieces_in entries)
    → AreTold end new.player.choices.items path.choices
    → EndsBy recorded budget entries path seen.coming (AllGiven counts (events_in from) place.followed.seam path (pieces_in entries)) (WasServed image recorded budget counts from entries) end
    → (seen.takes ≡ false → WasServed image recorded budget counts from entries) → HasServed image recorded budget counts began seen from end new
served_all {entries = entries} {path = path} end new place all told ends failed = record {
  entries = entries;
  path = path;
  since = place.since;
  behind = place.behind;
  tells = place.tells;
  followed = place.followed;
  few = place.few;
  steps = ap (λ (s : Standing). s.steps) (sym place.stands);
  taken = ap (λ (s : Standing). s.guest.machine.taken) (sym place.stands);
  choices = told;
  given = part_of all;
  asked = place.asked;
  ends = ends;
  failed = failed;
}

module _ {image : Image} {recorded : Recorded} {budget : ℕ} {counts : List (ℕ × ℕ)} {began : Told} {seen : Seen} {from : List Entry} {old : Follower} (new : Follower) (is : IsServing image recorded budget counts began seen from old) where
  abbrev place_at : {result : Result Event AllocError} (ran : RunsOn (plain_limits budget) [] [] is.path result new.player.cpu.slots.live) → IsPlace image recorded budget counts began seen from is.entries ran.now new.player.cpu.slots.live
  place_at ran = record {
    since = is.since;
    behind = is.behind;
    tells = is.heard.tells;
    followed = followed_on is.followed (lifted is ran.goes.served);
    few = is.few;
    stands = ran.stands;
    asked = is.asked;
  }

  pub exits_served : (code : ℕ) (ran : RunsOn (plain_limits budget) [] [] is.path (Ok (event.Exits code)) new.player.cpu.slots.live) → seen.takes ≡ true → new.player.choices.items ≡ old.player.choices.items
      → HasServed image recorded budget counts began seen from (answer.Exited code) new
  exits_served code ran takes same =
      let all = all_silent ran.comes.0.sends is.given in
      served_all (answer.Exited code) new (place_at ran) all (same ∙ is.choices ∙ sym ran.comes.0.choices) (all, ran.comes.1) (λ no. absurd (both_ways seen.takes no takes))

  pub fails_served : (cause : Cause) (point : ℕ) (ran : RunsOn (plain_limits budget) [] [] is.path (Ok (event.Failed cause)) new.player.cpu.slots.live) → seen.takes ≡ true → new.player.choices.items ≡ old.player.choices.items
      → point ≡ new.player.cpu.slots.live.guest.machine.taken → HasServed image recorded budget counts began seen from (answer.GaveUp point cause) new
  fails_served cause point ran takes same is_point =
      let all = all_silent ran.comes.0.sends is.given in
      served_all (answer.GaveUp point cause) new (place_at ran) all (same ∙ is.choices ∙ sym ran.comes.0.choices) (all, ran.comes.1, is_point ∙ ap (λ (s : Standing). s.guest.machine.taken) (sym ran.stands)) (λ no. absurd (both_ways seen.takes no takes))

  pub memory_served : (why : AllocError) (ran : RunsOn (plain_limits budget) [] [] is.path (Err why) new.player.cpu.slots.live) → seen.takes ≡ true → new.player.choices.items ≡ old.player.choices.items
      → HasServed image recorded budget counts began seen from answer.Memory new
  memory_served why ran takes same =
      let all = all_silent ran.comes.0.sends is.given in
      served_all answer.Memory new (place_at ran) all ([], append-nil new.player.choices.items ∙ same ∙ is.choices ∙ sym ran.comes.0.choices) tt (λ no. absurd (both_ways seen.takes no takes))

  -- there is room where it goes on
  room_on : {result : Result Event AllocError} (ran : RunsOn (plain_limits budget) [] [] is.path result new.player.cpu.slots.live) → budget ≤ 2 ^ 36 → ran.now.state.ended ≡ None → HasRoom new.player.cpu.slots.live
  room_on ran few lives =
      let count = counted budget ran.goes.served.more is.path ran.now ran.goes.served.ran lives in
      let room : HasRoom (standing_of is.path) = subst HasRoom (sym is.stands) is.room in
      let later : HasRoom (standing_of ran.now) = record {
        since = count.since room.since (omega (arith, few));
        steps = omega (arith, room.steps, count.steps, ran.goes.taken);
      } in
      subst HasRoom ran.stands later

  -- a follower whose guest ran there, and which sent nothing
  abbrev serving_at : {result : Result Event AllocError} (ran : RunsOn (plain_limits budget) [] [] is.path result new.player.cpu.slots.live) → budget ≤ 2 ^ 36 → ran.now.state.ended ≡ None → ran.now.state.sends ≡ is.path.state.sends
      → new.player.choices.items ≡ ran.now.choices → stage_of new.player ≡ record (stage_of old.player) { live = new.player.cpu.slots.live; choices = new.player.choices.items }
      → IsServing image recorded budget counts began seen from new
  serving_at ran few lives silent choices moved =
      let machine = ap (λ (s : Standing). s.guest.machine) ran.stands in
      let was = ap (λ (s : Standing). s.guest.machine) is.stands in
      let taken = ap (λ m. m.taken) (sym machine) ∙ ran.goes.taken ∙ ap (λ m. m.taken) was in
      let connections = ap (λ m. m.connections) (sym machine) ∙ ran.goes.connections ∙ ap (λ m. m.connections) was in
      record {
        entries = is.entries;
        path = ran.now;
        since = is.since;
        behind = is.behind;
        heard = subst (HasHeard recorded began seen is.entries) (sym moved) (heard_ran {choices = new.player.choices.items} taken connections is.heard);
        followed = followed_on is.followed (lifted is ran.goes.served);
        few = is.few;
        stands = ran.stands;
        choices = choices;
        given = all_silent silent is.given;
        asked = is.asked;
        lives = ap (λ (s : Standing). s.ended) (sym ran.stands) ∙ lives;
        opened = subst (AreOpen seen.phases) (sym connections) is.opened;
        room = room_on ran few lives;
      }

  -- it asks for an item
  pub asks_served : (ran : RunsOn (plain_limits budget) [] [] is.path (Ok event.Asks) new.player.cpu.slots.live) → budget ≤ 2 ^ 36 → new.player.choices.items ≡ old.player.choices.items
      → stage_of new.player ≡ record (stage_of old.player) { live = new.player.cpu.slots.live; choices = new.player.choices.items } → IsWanting image recorded budget counts began seen from new
  asks_served ran few same moved = record {
    is = serving_at ran few ran.comes.1.lives ran.comes.0.sends (same ∙ is.choices ∙ sym ran.comes.0.choices) moved;
    asks = record { lives = ran.comes.1.lives; taken = refl; asks = ran.comes.1.asks };
  }

-- no event was taken behind a journal
served_none : {image : Image} {recorded : Recorded} {budget : ℕ} {counts : List (ℕ × ℕ)} {from entries later : List Entry} → NoneTook entries later → AreServed image recorded budget counts from entries → AreServed image recorded budget counts from later
served_none none asked before after event same late = let found = none before after event same in asked before found.0 event found.1 late

-- items are the same with the same events
same_items : (recorded : Recorded) (entries later : List Entry) → events_in later ≡ events_in entries → items_in (bounds_of recorded) later ≡ items_in (bounds_of recorded) entries
same_items recorded entries later same = ap (λ events. items_of recorded.frame (heeded (bounds_of recorded) events)) same

no_more_items : (recorded : Recorded) (entries later : List Entry) → events_in later ≡ events_in entries → items_in (bounds_of recorded) later ≡ items_in (bounds_of recorded) entries ++ []
no_more_items recorded entries later same = same_items recorded entries later same ∙ sym (append-nil (items_in (bounds_of recorded) entries))

-- the answers that were kept are all
told_by : (end : Answer) {choices used : List Choice} → choices ≡ used → AreTold end choices used
told_by answer.Memory {choices = choices} same = ([], append-nil choices ∙ same)
told_by answer.Finished same = same
told_by (answer.Exited code) same = same
told_by answer.BadWords same = same
told_by (answer.ElfRefused number) same = same
told_by (answer.AsmRefused kind line) same = same
told_by (answer.RecordRefused line) same = same
told_by (answer.ReportRefused line) same = same
told_by (answer.CountsRefused line) same = same
told_by (answer.Short conn) same = same
told_by (answer.Mismatch step) same = same
told_by answer.TooLarge same = same
told_by (answer.InputRefused kind offset) same = same
told_by (answer.MessageTooLong conn) same = same
told_by (answer.GaveUp point cause) same = same
told_by answer.LimitItems same = same
told_by answer.LimitEvents same = same
told_by answer.ReadFault same = same
told_by answer.WriteFault same = same
told_by answer.FileFault same = same

-- at a fault of giving nothing more is said
fault_ends : (recorded : Recorded) (budget : ℕ) (entries : List Entry) (path : Path) (coming : Option Coming) (Given Asked : Type 0) (end : Answer) → IsPassFault end → EndsBy recorded budget entries path coming Given Asked end
fault_ends recorded budget entries path coming Given Asked answer.WriteFault fault = tt
fault_ends recorded budget entries path coming Given Asked answer.Memory fault = tt
fault_ends recorded budget entries path coming Given Asked _ fault = absurd fault

-- one send more
sent_more : {counts : List (ℕ × ℕ)} {events : List LinkEvent} {seam path : Path} {pieces : List Piece} (now : Path) (all : AllGiven counts events seam path pieces) (send : Send) → now.state.sends ≡ path.state.sends ++ send ∷ []
    → now.state.sends ≡ seam.state.sends ++ (all.later ++ send ∷ [])
sent_more {seam = seam} now all send same = same ∙ ap (λ (s : List Send). s ++ send ∷ []) all.sent ∙ append_assoc seam.state.sends all.later (send ∷ [])

-- ---- it has sent bytes

module _ {image : Image} {recorded : Recorded} {budget : ℕ} {counts : List (ℕ × ℕ)} {began : Told} {seen : Seen} {from : List Entry} {old : Follower} (mid : Follower) (now : Seen) (new : Follower) (is : IsServing image recorded budget counts began seen from old) {conn : ℕ} {bytes : List ℕ}
    (ran : RunsOn (plain_limits budget) [] [] is.path (Ok (event.Emits conn bytes)) mid.player.cpu.slots.live) where
  -- what was heard, where the guest stands behind it
  pub heard_sent : stage_of mid.player ≡ record (stage_of old.player) { live = mid.player.cpu.slots.live } → HasHeard recorded began seen is.entries (stage_of mid.player)
  heard_sent moved =
      let machine = ap (λ (s : Standing). s.guest.machine) ran.stands in
      let was = ap (λ (s : Standing). s.guest.machine) is.stands in
      subst (HasHeard recorded began seen is.entries) (sym moved)
      (heard_ran {choices = old.player.choices.items} (ap (λ m. m.taken) (sym machine) ∙ ran.goes.taken ∙ ap (λ m. m.taken) was) (ap (λ m. m.connections) (sym machine) ∙ ran.goes.connections ∙ ap (λ m. m.connections) was) is.heard)

  abbrev emits_place : (later : List Entry) {live : Standing} (more : List Entry) → later ≡ is.entries ++ more → events_in later ≡ events_in is.entries → NoneTook is.entries later → Tells began now.told later → live ≡ mid.player.cpu.slots.live
      → IsPlace image recorded budget counts began now from later ran.now live
  emits_place later more later_is same none tells stays = record {
    since = is.since ++ more;
    behind = later_is ∙ ap (λ (l : List Entry). l ++ more) is.behind ∙ append_assoc from is.since more;
    tells = tells;
    followed = followed_more [] (no_more_items recorded is.entries later same) (followed_on is.followed (lifted is ran.goes.served));
    few = is.few;
    stands = ran.stands ∙ sym stays;
    asked = served_none none is.asked;
  }

  emits_passed : HasPassed recorded began now is.entries (one_send conn bytes is.path.state.machine.taken) (stage_of new.player) → budget ≤ 2 ^ 36 → KeepsGuest mid new → mid.player.choices.items ≡ old.player.choices.items → now.phases ≡ seen.phases
      → IsServing image recorded budget counts began now from new
  emits_passed passed few keeps choices phases =
      let send : Send = record { conn = conn; bytes = bytes; taken = is.path.state.machine.taken } in
      let stays : new.player.cpu.slots.live ≡ mid.player.cpu.slots.live = ap (λ cpu. cpu.slots.live) keeps.cpu in
      let place = emits_place (is.entries ++ passed.more) passed.more refl passed.no_events passed.none_took passed.heard.tells stays in
      let machine = ap (λ (s : Standing). s.guest.machine) (ran.stands ∙ sym stays) in
      let was = ap (λ (s : Standing). s.guest.machine) is.stands in
      let connections = ap (λ m. m.connections) (sym machine) ∙ ran.goes.connections ∙ ap (λ m. m.connections) was in
      record {
        entries = is.entries ++ passed.more;
        path = ran.now;
        since = place.since;
        behind = place.behind;
        heard = passed.heard;
        followed = place.followed;
        few = place.few;
        stands = place.stands;
        choices = ap (λ all. all.items) keeps.choices ∙ choices ∙ is.choices ∙ sym ran.comes.0;
        given = record {
          later = is.given.later ++ send ∷ [];
          sent = sent_more ran.now is.given send ran.comes.1;
          given = subst (λ (s : List Send). AreGiven s (pieces_in (is.entries ++ passed.more))) (append_assoc (missing counts (events_in from) (output_of is.followed.seam)) is.given.later (send ∷ [])) (passed.given _ is.given.given);
        };
        asked = place.asked;
        lives = ap (λ (s : Standing). s.ended) (sym (ran.stands ∙ sym stays)) ∙ ran.comes.5;
        opened = subst (λ phases. AreOpen phases new.player.cpu.slots.live.guest.machine.connections) (sym phases) (subst (AreOpen seen.phases) (sym connections) is.opened);
        room = subst HasRoom (sym stays) (room_on mid is ran few ran.comes.5);
      }

  emits_cut : (end : Answer) → HasCutOff recorded began now is.entries (one_send conn bytes is.path.state.machine.taken) end → KeepsGuest mid new → mid.player.choices.items ≡ old.player.choices.items → HasServed image recorded budget counts began now from end new
  emits_cut end cut keeps choices =
      let send : Send = record { conn = conn; bytes = bytes; taken = is.path.state.machine.taken } in
      let stays : new.player.cpu.slots.live ≡ mid.player.cpu.slots.live = ap (λ cpu. cpu.slots.live) keeps.cpu in
      let place = emits_place (is.entries ++ cut.more) cut.more refl cut.no_events cut.none_took cut.tells stays in
      let dues : List Send = missing counts (events_in from) (output_of is.followed.seam) in
      record {
        entries = is.entries ++ cut.more;
        path = ran.now;
        since = place.since;
        behind = place.behind;
        tells = cut.tells;
        followed = place.followed;
        few = place.few;
        steps = ap (λ (s : Standing). s.steps) (sym place.stands);
        taken = ap (λ (s : Standing). s.guest.machine.taken) (sym place.stands);
        choices = told_by end (ap (λ all. all.items) keeps.choices ∙ choices ∙ is.choices ∙ sym ran.comes.0);
        given = record {
          later = is.given.later ++ send ∷ [];
          sent = sent_more ran.now is.given send ran.comes.1;
          front = (dues ++ is.given.later) ++ cut.front;
          is_front = (cut.is_front.0, append_assoc (dues ++ is.given.later) cut.front cut.is_front.0 ∙ ap (λ (s : List Send). (dues ++ is.given.later) ++ s) cut.is_front.1 ∙ append_assoc dues is.given.later (send ∷ []));
          given = cut.given (dues ++ is.given.later) is.given.given;
          but_last = elim (none_or_it cut.front send cut.is_front) [
            | inl none ↦ inr (is.given.later, send, refl, cut.none none (dues ++ is.given.later) is.given.given)
            | inr all ↦ inl (inr (ap (λ (s : List Send). (dues ++ is.given.later) ++ s) all ∙ append_assoc dues is.given.later (send ∷ [])))
          ];
        };
        asked = place.asked;
        ends = fault_ends recorded budget (is.entries ++ cut.more) ran.now now.coming _ _ end cut.fault;
        failed = λ no. absurd (both_ways now.takes no cut.takes);
      }

  pub emits_served : (result : Result (Unit {0}) Answer) → PassesBy recorded began now is.entries (one_send conn bytes is.path.state.machine.taken) (stage_of new.player) result → budget ≤ 2 ^ 36 → KeepsGuest mid new → mid.player.choices.items ≡ old.player.choices.items
      → now.phases ≡ seen.phases → ServesBy image recorded budget counts began now from new result
  emits_served (Ok done) passed few keeps choices phases = emits_passed passed few keeps choices phases
  emits_served (Err end) cut few keeps choices phases = emits_cut end cut keeps choices

-- ---- it asks for an item

-- there is room behind an item
room_taken : (s : Standing) (item : Item) (budget : ℕ) → HasRoom s → s.guest.machine.since ≤ budget → budget ≤ 2 ^ 36 → HasRoom (taken_standing item s)
room_taken s item budget room low few =
    let keeps = received_keeps item s.guest.machine in
    record { since = omega (arith, keeps.since); steps = omega (arith, room.steps, low, few, keeps.taken, keeps.since) }

-- where a guest asks, its budget isn't used up
asks_early : (limits : Limits) (env : Env) (guest : Guest) → serves limits env None guest ≡ Wants → guest.machine.since < limits.budget
unfolding serves
asks_early limits env guest asks = by (leb limits.budget guest.machine.since) refl asks
  where
    by : (late : Bool) → leb limits.budget guest.machine.since ≡ late → cond late (Fails Hang) (cond (is_refused limits guest.heap (touched guest.machine)) (Fails BadAccess) (does_with (grant env guest) None guest.machine)) ≡ Wants → guest.machine.since < limits.budget
    by true late is = let no : Fails Hang ≡ Wants = is in absurd (cc)
    by false late is = leb-false limits.budget guest.machine.since late

since_low : {image : Image} {recorded : Recorded} {budget : ℕ} {counts : List (ℕ × ℕ)} {began : Told} {seen : Seen} {from : List Entry} {old : Follower} → IsWanting image recorded budget counts began seen from old → old.player.cpu.slots.live.guest.machine.since ≤ budget
since_low {budget = budget} wanting =
    let early = asks_early (plain_limits budget) Plain (guest_of wanting.is.path) wanting.asks.asks in
    let same = ap (λ (s : Standing). s.guest.machine.since) wanting.is.stands in
    omega (arith, early, same)

module _ {image : Image} {recorded : Recorded} {budget : ℕ} {counts : List (ℕ × ℕ)} {began : Told} {seen : Seen} {from : List Entry} {old : Follower} (wanting : IsWanting image recorded budget counts began seen from old) where
  taken_here : wanting.is.path.state.machine.taken ≡ old.player.cpu.slots.live.guest.machine.taken
  taken_here = ap (λ (s : Standing). s.guest.machine.taken) wanting.is.stands

  -- the run on a later journal, which has no other pieces
  abbrev followed_at : {later : List Entry} → IsLater recorded wanting.is.entries later → IsFollowed image recorded budget (items_in (bounds_of recorded) later) wanting.is.path
  followed_at later = followed_more later.items later.brings wanting.is.followed

  same_pieces : {later : List Entry} → IsLater recorded wanting.is.entries later → pieces_in wanting.is.entries ≡ pieces_in later
  same_pieces later = sym (ap pieces_in later.is ∙ pieces_in-append wanting.is.entries later.more ∙ ap (λ l. pieces_in wanting.is.entries ++ l) later.no_pieces ∙ append-nil (pieces_in wanting.is.entries))

  given_at : {later : List Entry} → IsLater recorded wanting.is.entries later → AllGiven counts (events_in from) wanting.is.followed.seam wanting.is.path (pieces_in later)
  given_at later = subst (AllGiven counts (events_in from) wanting.is.followed.seam wanting.is.path) (same_pieces later) wanting.is.given

  asks_at : (later : List Entry) → received (bounds_of recorded) later ≡ old.player.cpu.slots.live.guest.machine.taken → AsksNext recorded budget later wanting.is.path
  asks_at later next = record { lives = wanting.asks.lives; taken = taken_here ∙ sym next; asks = wanting.asks.asks }

  served_at : {later : List Entry} → IsAwaited recorded wanting.is.entries later old.player.cpu.slots.live.guest.machine.taken → WasServed image recorded budget counts from later
  served_at {later = later} awaited = record {
    path = wanting.is.path;
    followed = followed_at awaited.later_is;
    asks = asks_at later awaited.next;
    given = given_at awaited.later_is;
    heeds = awaited.heeds;
    goes_on = awaited.goes_on;
  }

  asked_at : {later : List Entry} → AreAwaited recorded wanting.is.entries later old.player.cpu.slots.live.guest.machine.taken → AreServed image recorded budget counts from later
  asked_at asked before after event same late =
      elim (asked before after event same) [
        | inl found ↦ wanting.is.asked before found.0 event found.1 late
        | inr awaited ↦ served_at awaited
      ]

  abbrev place_later : {now : Seen} {later : List Entry} {live : Standing} → IsLater recorded wanting.is.entries later → AreAwaited recorded wanting.is.entries later old.player.cpu.slots.live.guest.machine.taken → Tells began now.told later
      → live ≡ old.player.cpu.slots.live → IsPlace image recorded budget counts began now from later wanting.is.path live
  place_later later asked tells stays = record {
    since = wanting.is.since ++ later.more;
    behind = later.is ∙ ap (λ (l : List Entry). l ++ later.more) wanting.is.behind ∙ append_assoc from wanting.is.since later.more;
    tells = tells;
    followed = followed_at later;
    few = wanting.is.few;
    stands = wanting.is.stands ∙ sym stays;
    asked = asked_at asked;
  }

  ends_by : (now : Seen) {later : List Entry} (end : Answer) → IsLater recorded wanting.is.entries later → Unheard recorded wanting.is.entries later old.player.cpu.slots.live.guest.machine.taken now.coming end
      → EndsBy recorded budget later wanting.is.path now.coming (AllGiven counts (events_in from) wanting.is.followed.seam wanting.is.path (pieces_in later)) (WasServed image recorded budget counts from later) end
  ends_by now {later = l} answer.Finished later why = (given_at later, asks_at l why.0, why.1, why.2)
  ends_by now {later = l} (answer.InputRefused kind offset) later why = (given_at later, served_at why.0, asks_at l why.0.next, why.1)
  ends_by now {later = l} (answer.MessageTooLong conn) later why = (given_at later, asks_at l why.0, why.1)
  ends_by now {later = l} answer.LimitItems later why = (given_at later, asks_at l why.0, why.1)
  ends_by now {later = l} answer.LimitEvents later why = (given_at later, asks_at l why.0, why.1)
  ends_by now {later = l} answer.ReadFault later why = (given_at later, served_at why, asks_at l why.next)
  ends_by now answer.Memory later why = tt
  ends_by now _ later why = absurd why

  -- none came
  pub stops_served : {now : Seen} {new : Follower} (end : Answer) → HasStopped recorded began now wanting.is.entries old.player.cpu.slots.live.guest.machine.taken end → KeepsRun old new → HasServed image recorded budget counts began now from end new
  stops_served {now = now} {new = new} end stopped keeps =
      served_all end new (place_later stopped.is_later stopped.asked stopped.tells (ap (λ cpu. cpu.slots.live) keeps.cpu)) (given_at stopped.is_later)
      (told_by end (ap (λ (s : Stage). s.choices) keeps.stage ∙ wanting.is.choices))
      (ends_by now end stopped.is_later stopped.why)
      (λ no. served_at (stopped.failed no))

  -- it came, and is taken
  pub takes_served : {now : Seen} {mid new : Follower} {item : Item} → KeepsRun old mid → (more : HearsMore recorded began now wanting.is.entries old.player.cpu.slots.live.guest.machine.taken (stage_of mid.player))
      → IsItemOf mid.player.log mid.player.cpu.slots.live.guest.machine.taken item → stage_of new.player ≡ record (stage_of mid.player) { live = new.player.cpu.slots.live } → new.player.cpu.slots.live ≡ taken_standing item mid.player.cpu.slots.live
      → budget ≤ 2 ^ 36 → IsServing image recorded budget counts began now from new
  takes_served {now = now} {mid = mid} {new = new} {item = item} keeps more is_item moved left few =
      let taken = heard_takes more.heard is_item left in
      let stays : mid.player.cpu.slots.live ≡ old.player.cpu.slots.live = ap (λ cpu. cpu.slots.live) keeps.cpu in
      let here : slice_get (items_in (bounds_of recorded) more.later) wanting.is.path.state.machine.taken ≡ Some item =
      ap (slice_get (items_in (bounds_of recorded) more.later)) (taken_here ∙ ap (λ (s : Standing). s.guest.machine.taken) (sym stays)) ∙ taken.here in
      let took = takes_serve (plain_limits budget) (items_in (bounds_of recorded) more.later) [] wanting.is.path item wanting.asks here in
      let stands : standing_of took.now ≡ new.player.cpu.slots.live = took.stands ∙ ap (taken_standing item) (wanting.is.stands ∙ sym stays) ∙ sym left in
      let place = place_later {now = now} {live = old.player.cpu.slots.live} more.is_later more.asked more.heard.tells refl in
      record {
        entries = more.later;
        path = took.now;
        since = place.since;
        behind = place.behind;
        heard = subst (HasHeard recorded began now more.later) (sym moved) taken.heard;
        followed = followed_on (followed_at more.is_later) took.served;
        few = wanting.is.few;
        stands = stands;
        choices = ap (λ (s : Stage). s.choices) (moved ∙ (λ i. record (keeps.stage i) { live = new.player.cpu.slots.live; log = mid.player.log; events = mid.player.events })) ∙ wanting.is.choices ∙ sym took.silent.choices;
        given = all_silent took.silent.sends (given_at more.is_later);
        asked = asked_at more.asked;
        lives = ap (λ (s : Standing). s.ended) (sym stands) ∙ took.lives;
        opened = taken.opened;
        room = subst HasRoom (sym left) (subst (λ (s : Standing). HasRoom (taken_standing item s)) (sym stays) (room_taken old.player.cpu.slots.live item budget wanting.is.room (since_low wanting) few));
      }

-- ---- what the calls of a turn ask for

-- an event that a guest came to
pub ran_event : {image : Image} {recorded : Recorded} {budget : ℕ} {counts : List (ℕ × ℕ)} {began : Told} {seen : Seen} {from : List Entry} {old : Follower} (is : IsServing image recorded budget counts began seen from old) {base : ℕ} {before after : Live} {found came : Event}
    → found ≡ came → before.standing ≡ old.player.cpu.slots.live → RunsBy event.Emits (turn (plain_limits budget) Plain) base before (Ok found) after → RunsOn (plain_limits budget) [] [] is.path (Ok came) after.standing
ran_event {budget = budget} is {base = base} {before = before} {after = after} {found = found} same here runs =
    subst (λ (e : Event). RunsOn (plain_limits budget) [] [] is.path (Ok e) after.standing) same (ran_to is base before after (Ok found) here runs)

-- no more items are taken than a session may receive
few_taken : {recorded : Recorded} {began : Told} {seen : Seen} {entries : List Entry} {stage : Stage} → HasHeard recorded began seen entries stage → logs.received stage.log ≤ stage.log.max_items → stage.live.guest.machine.taken ≤ MAX_ITEMS
few_taken {recorded = recorded} {entries = entries} {stage = stage} heard few = omega (arith, few, heard.items.most, heard.taken, received_is (bounds_of recorded) entries stage.log heard.items)

-- one turn more can be counted
pub room_to_run : {image : Image} {recorded : Recorded} {budget : ℕ} {counts : List (ℕ × ℕ)} {began : Told} {seen : Seen} {from : List Entry} {old : Follower} → IsServing image recorded budget counts began seen from old → budget ≤ 2 ^ 36
    → logs.received old.player.log ≤ old.player.log.max_items → old.player.cpu.slots.live.steps + budget < 2 ^ 64 - 1
room_to_run is low few =
    let taken = few_taken is.heard few in
    omega (arith, is.room.steps, is.room.since, taken, low)

-- ---- an answer of the allocator

module _ {image : Image} {recorded : Recorded} {budget : ℕ} {counts : List (ℕ × ℕ)} {began : Told} {seen : Seen} {from : List Entry} {old : Follower} (mid new : Follower) (is : IsServing image recorded budget counts began seen from old) {choice : Choice}
    (ran : RunsOn (plain_limits budget) [] [] is.path (Ok (event.Chooses choice)) mid.player.cpu.slots.live) where
  pub chooses_served : (result : Result (Unit {0}) Answer) → budget ≤ 2 ^ 36 → seen.takes ≡ true → mid.player.choices.items ≡ old.player.choices.items → stage_of mid.player ≡ record (stage_of old.player) { live = mid.player.cpu.slots.live }
      → NotesChoice choice mid new result → ServesBy image recorded budget counts began seen from new result
  chooses_served (Ok done) few takes same moved notes =
      let stays : new.player.cpu.slots.live ≡ mid.player.cpu.slots.live = ap (λ cpu. cpu.slots.live) notes.0.cpu in
      let ran_new = subst (RunsOn (plain_limits budget) [] [] is.path (Ok (event.Chooses choice))) (sym stays) ran in
      serving_at new is ran_new few ran_new.comes.2 ran_new.comes.1 (notes.1 ∙ ap (λ (l : List Choice). l ++ choice ∷ []) (same ∙ is.choices) ∙ sym ran_new.comes.0)
      (notes.0.stage ∙ (λ i. record (moved i) { live = (sym stays) i; choices = new.player.choices.items }))
  chooses_served (Err answer.Memory) few takes same moved notes =
      let stays : new.player.cpu.slots.live ≡ mid.player.cpu.slots.live = ap (λ cpu. cpu.slots.live) notes.0.cpu in
      let ran_new = subst (RunsOn (plain_limits budget) [] [] is.path (Ok (event.Chooses choice))) (sym stays) ran in
      served_all answer.Memory new (place_at new is ran_new) (all_silent ran_new.comes.1 is.given)
      (choice ∷ [], ap (λ (l : List Choice). l ++ choice ∷ []) (notes.1 ∙ same ∙ is.choices) ∙ sym ran_new.comes.0) tt (λ no. absurd (both_ways seen.takes no takes))
  chooses_served (Err _) few takes same moved notes = absurd notes

-- ---- where the record ended

-- the run of a follower that has caught up
abbrev seam_of : Follower → List Send → Path
seam_of follower sends = record {
  state = record { machine = follower.player.cpu.slots.live.guest.machine; sends = sends; ended = follower.player.cpu.slots.live.ended };
  heap = follower.player.cpu.slots.live.guest.heap;
  choices = follower.player.choices.items;
  steps = follower.player.cpu.slots.live.steps;
}

module _ {image : Image} {recorded : Recorded} {began : Told} {seen : Seen} {old : Follower} (up : HasCaughtUp image recorded began seen old) (laid_out : IsLaidOut old.player.cpu.slots.live.guest) where
  seam_ends : IsRecordsEnd image recorded (items_in (bounds_of recorded) up.entries) (seam_of old up.sends)
  seam_ends = record {
    ran = up.follows.is.ran;
    steps = up.at_end;
    lines = up.follows.is.lines;
    all = up.all;
    taken = up.taken;
    laid_out = laid_out;
    bare = up.follows.bare;
  }

  abbrev followed_seam : (budget : ℕ) → IsFollowed image recorded budget (items_in (bounds_of recorded) up.entries) (seam_of old up.sends)
  followed_seam budget = record { seam = seam_of old up.sends; is_seam = seam_ends; served = record { more = 0; ran = refl } }

  seam_stands : standing_of (seam_of old up.sends) ≡ old.player.cpu.slots.live
  seam_stands = λ i. record { guest = old.player.cpu.slots.live.guest; sends = (sym up.follows.sent) i; steps = old.player.cpu.slots.live.steps; ended = old.player.cpu.slots.live.ended }

  out_is : (λ (conn : ℕ). kept_to conn old.kept.items) ≡ output_of (seam_of old up.sends)
  out_is = λ i conn. up.kept conn i

  few_had : (counts : List (ℕ × ℕ)) → ((conn : ℕ) → count_of counts conn ≤ length (kept_to conn old.kept.items)) → (conn : ℕ) → count_of counts conn ≤ length (sent_to conn up.sends)
  few_had counts few conn = subst (λ (l : List ℕ). count_of counts conn ≤ length l) (up.kept conn) (few conn)

  none_since : {image : Image} {budget : ℕ} {counts : List (ℕ × ℕ)} {later : List Entry} → NoneTook up.entries later → AreServed image recorded budget counts up.entries later
  none_since none before after event same late =
      let found = none before after event same in
      let more : length up.entries ≡ length before + length (entry.Took event ∷ found.0) = ap length found.1 ∙ length-append before (entry.Took event ∷ found.0) in
      absurd (let no : ⊥ = omega (arith, late, more) in no)

  abbrev place_seam : {now : Seen} {budget : ℕ} {counts : List (ℕ × ℕ)} {new : Follower} (more : List Entry) → events_in (up.entries ++ more) ≡ events_in up.entries → NoneTook up.entries (up.entries ++ more) → Tells began now.told (up.entries ++ more) → KeepsGuest old new
      → ((conn : ℕ) → count_of counts conn ≤ length (kept_to conn old.kept.items)) → IsPlace image recorded budget counts began now up.entries (up.entries ++ more) (seam_of old up.sends) new.player.cpu.slots.live
  place_seam {budget = budget} {counts = counts} more same none tells keeps few = record {
    since = more;
    behind = refl;
    tells = tells;
    followed = followed_more [] (no_more_items recorded up.entries (up.entries ++ more) same) (followed_seam budget);
    few = few_had counts few;
    stands = seam_stands ∙ ap (λ cpu. cpu.slots.live) (sym keeps.cpu);
    asked = none_since none;
  }

  -- clients got all that they missed
  all_missing : {counts : List (ℕ × ℕ)} {now : Seen} {stage : Stage} (passed : HasPassed recorded began now up.entries (missing counts (events_in up.entries) (λ conn. kept_to conn old.kept.items)) stage)
      → AllGiven counts (events_in up.entries) (seam_of old up.sends) (seam_of old up.sends) (pieces_in (up.entries ++ passed.more))
  all_missing {counts = counts} passed = record {
    later = [];
    sent = sym (append-nil up.sends);
    given = subst (λ (l : List Send). AreGiven l (pieces_in (up.entries ++ passed.more))) (ap (missing counts (events_in up.entries)) out_is ∙ sym (append-nil (missing counts (events_in up.entries) (output_of (seam_of old up.sends)))))
        (passed.given [] (subst (AreGiven []) (sym up.follows.no_pieces) giving.Nothing));
  }

  pub missing_cut : {counts : List (ℕ × ℕ)} {budget : ℕ} {now : Seen} {new : Follower} {end : Answer} → HasCutOff recorded began now up.entries (missing counts (events_in up.entries) (λ conn. kept_to conn old.kept.items)) end → KeepsGuest old new
      → ((conn : ℕ) → count_of counts conn ≤ length (kept_to conn old.kept.items)) → HasServed image recorded budget counts began now up.entries end new
  missing_cut {counts = counts} {budget = budget} {now = now} {new = new} {end = end} cut keeps few =
      let place = place_seam {now = now} {budget = budget} {counts = counts} {new = new} cut.more cut.no_events cut.none_took cut.tells keeps few in
      record {
        entries = up.entries ++ cut.more;
        path = seam_of old up.sends;
        since = cut.more;
        behind = refl;
        tells = cut.tells;
        followed = place.followed;
        few = place.few;
        steps = ap (λ (s : Standing). s.steps) (sym place.stands);
        taken = ap (λ (s : Standing). s.guest.machine.taken) (sym place.stands);
        choices = told_by end (ap (λ all. all.items) keeps.choices);
        given = record {
          later = [];
          sent = sym (append-nil up.sends);
          front = cut.front;
          is_front = (cut.is_front.0, cut.is_front.1 ∙ ap (missing counts (events_in up.entries)) out_is ∙ sym (append-nil (missing counts (events_in up.entries) (output_of (seam_of old up.sends)))));
          given = cut.given [] (subst (AreGiven []) (sym up.follows.no_pieces) giving.Nothing);
          but_last = inl (inl refl);
        };
        asked = place.asked;
        ends = fault_ends recorded budget (up.entries ++ cut.more) (seam_of old up.sends) now.coming _ _ end cut.fault;
        failed = λ no. absurd (both_ways now.takes no cut.takes);
      }

  -- its run had ended itself
  pub missing_exits : {counts : List (ℕ × ℕ)} {budget : ℕ} {now : Seen} {new : Follower} (code : ℕ) → HasPassed recorded began now up.entries (missing counts (events_in up.entries) (λ conn. kept_to conn old.kept.items)) (stage_of new.player) → KeepsGuest old new
      → ((conn : ℕ) → count_of counts conn ≤ length (kept_to conn old.kept.items)) → new.exited ≡ Some code → now.takes ≡ true → HasServed image recorded budget counts began now up.entries (answer.Exited code) new
  missing_exits {counts = counts} {budget = budget} {now = now} {new = new} code passed keeps few exited takes =
      let place = place_seam {now = now} {budget = budget} {counts = counts} {new = new} passed.more passed.no_events passed.none_took passed.heard.tells keeps few in
      let all = all_missing passed in
      served_all (answer.Exited code) new place all (ap (λ choices. choices.items) keeps.choices) (all, sym up.exited ∙ sym keeps.exited ∙ exited) (λ no. absurd (both_ways now.takes no takes))

  -- it goes on
  pub missing_serves : {counts : List (ℕ × ℕ)} {budget : ℕ} {now : Seen} {new : Follower} → HasPassed recorded began now up.entries (missing counts (events_in up.entries) (λ conn. kept_to conn old.kept.items)) (stage_of new.player) → KeepsGuest old new
      → ((conn : ℕ) → count_of counts conn ≤ length (kept_to conn old.kept.items)) → new.exited ≡ None → now.phases ≡ seen.phases → AreCounted (marks_of old.player.cpu.slots.live) → recorded.steps < 2 ^ 62
      → IsServing image recorded budget counts began now up.entries new
  missing_serves {counts = counts} {budget = budget} {now = now} {new = new} passed keeps few exited phases counted low =
      let place = place_seam {now = now} {budget = budget} {counts = counts} {new = new} passed.more passed.no_events passed.none_took passed.heard.tells keeps few in
      let stays : new.player.cpu.slots.live ≡ old.player.cpu.slots.live = ap (λ cpu. cpu.slots.live) keeps.cpu in
      let room : HasRoom old.player.cpu.slots.live = record { since = omega (arith, counted.since, up.at_end, low); steps = omega (arith, up.at_end, low) } in
      record {
        entries = up.entries ++ passed.more;
        path = seam_of old up.sends;
        since = passed.more;
        behind = refl;
        heard = passed.heard;
        followed = place.followed;
        few = place.few;
        stands = place.stands;
        choices = ap (λ choices. choices.items) keeps.choices;
        given = all_missing passed;
        asked = place.asked;
        lives = ap (λ (s : Standing). s.ended) stays ∙ sym up.exited ∙ sym keeps.exited ∙ exited;
        opened = subst (λ phases. AreOpen phases new.player.cpu.slots.live.guest.machine.connections) (sym phases) (subst (λ (s : Standing). AreOpen seen.phases s.guest.machine.connections) (sym stays) up.opened);
        room = subst HasRoom (sym stays) room;
      }

-- a follower that has caught up is heard
pub stands_heard : {seen : Seen} {follower : Follower} → MayServe seen follower → StandsHeard seen (stage_of follower.player)
stands_heard may = record { recorded = may.recorded; began = may.began; entries = may.up.entries; heard = may.up.follows.heard; takes = may.up.takes; gives = may.up.gives }

-- a follower that serves
pub record HasGoneServing (Went : Type 0) (budget : ℕ) (before now : Seen) (counter later : ℕ) (old new : Follower) : Type 0 where
  pub serving : (image : Image) (recorded : Recorded) (counts : List (ℕ × ℕ)) (began : Told) (from : List Entry) → IsServing image recorded budget counts began before from old → IsServing image recorded budget counts began now from new
  pub link : HasGoneOn before now
  pub steps : later + old.player.cpu.slots.live.steps ≡ counter + new.player.cpu.slots.live.steps
  pub went : Went

-- a guest that asks for an item wants it
pub wants_item : {image : Image} {recorded : Recorded} {budget : ℕ} {counts : List (ℕ × ℕ)} {began : Told} {seen : Seen} {from : List Entry} {old mid : Follower} → IsWanting image recorded budget counts began seen from old → KeepsRun old mid
    → does None None mid.player.cpu.slots.live.guest.machine ≡ Wants
wants_item {budget = budget} wanting keeps =
    ap (λ cpu. does None None cpu.slots.live.guest.machine) keeps.cpu ∙ ap (λ (s : Standing). does None None s.guest.machine) (sym wanting.is.stands)
    ∙ asks_wants (plain_limits budget) [] wanting.is.path wanting.is.path.state.machine.taken wanting.asks

-- and its instruction can be counted
pub room_to_take : {image : Image} {recorded : Recorded} {budget : ℕ} {counts : List (ℕ × ℕ)} {began : Told} {seen now : Seen} {from : List Entry} {old mid : Follower} {number : ℕ} (wanting : IsWanting image recorded budget counts began seen from old) → KeepsRun old mid
    → HearsMore recorded began now wanting.is.entries number (stage_of mid.player) → logs.received mid.player.log ≤ mid.player.log.max_items → mid.player.cpu.slots.live.steps < 2 ^ 64 - 1
room_to_take {mid = mid} wanting keeps more few =
    let taken = few_taken more.heard few in
    let room : HasRoom mid.player.cpu.slots.live = subst (λ cpu. HasRoom cpu.slots.live) (sym keeps.cpu) wanting.is.room in
    omega (arith, room.steps, room.since, taken)

-- ---- the counts of a turn

-- a guest that ran has no fewer instructions
pub ran_later : {image : Image} {recorded : Recorded} {budget : ℕ} {counts : List (ℕ × ℕ)} {began : Told} {seen : Seen} {from : List Entry} {old : Follower} (is : IsServing image recorded budget counts began seen from old) {result : Result Event AllocError} {later : Standing}
    (ran : RunsOn (plain_limits budget) [] [] is.path result later) → old.player.cpu.slots.live.steps ≤ later.steps
ran_later is ran = omega (arith, ran.goes.later, ap (λ (s : Standing). s.steps) is.stands, ap (λ (s : Standing). s.steps) ran.stands)

-- one that came so much further has more
pub ran_further : {image : Image} {recorded : Recorded} {budget : ℕ} {counts : List (ℕ × ℕ)} {began : Told} {seen : Seen} {from : List Entry} {old : Follower} (is : IsServing image recorded budget counts began seen from old) {result : Result Event AllocError} {later : Standing}
    (ran : RunsOn (plain_limits budget) [] [] is.path result later) → is.path.steps < ran.now.steps → old.player.cpu.slots.live.steps < later.steps
ran_further is ran more = omega (arith, more, ap (λ (s : Standing). s.steps) is.stands, ap (λ (s : Standing). s.steps) ran.stands)

-- the connection of a send is open
pub emits_here : {image : Image} {recorded : Recorded} {budget : ℕ} {counts : List (ℕ × ℕ)} {began : Told} {seen : Seen} {from : List Entry} {old : Follower} (is : IsServing image recorded budget counts began seen from old) {conn : ℕ} {bytes : List ℕ} {later : Standing}
    (ran : RunsOn (plain_limits budget) [] [] is.path (Ok (event.Emits conn bytes)) later) → seen.phases conn ≡ Open
emits_here is {conn = conn} ran = is.opened conn (ap (λ (s : Standing). has s.guest.machine.connections conn) (sym is.stands) ∙ ran.comes.2)

pub notes_cpu : (choice : Choice) (old new : Follower) (result : Result (Unit {0}) Answer) → NotesChoice choice old new result → new.player.cpu ≡ old.player.cpu
notes_cpu choice old new (Ok done) notes = notes.0.cpu
notes_cpu choice old new (Err answer.Memory) notes = notes.0.cpu
notes_cpu choice old new (Err _) notes = absurd notes

pub notes_none : (choice : Choice) (old new : Follower) (result : Result (Unit {0}) Answer) → NotesChoice choice old new result → HasNoFault result
notes_none choice old new (Ok done) notes = tt
notes_none choice old new (Err answer.Memory) notes = tt
notes_none choice old new (Err _) notes = absurd notes

-- ---- what the link shows

pub answers_then : {before mid now : Seen} {end : Answer} → LinkTurns before mid (Ok tt) → LinkAnswers mid now end → LinkAnswers before now end
answers_then {before = before} {mid = mid} {now = now} {end = end} turns answers = record {
  leaves = leaves_then before mid now end turns.leaves.2 answers.leaves;
  cause = record {
    takes = let one = turns.cause.takes in let other = answers.cause.takes in omega (arith, one, other);
    gives = let one = turns.cause.gives in let other = answers.cause.gives in omega (arith, one, other);
    read_fault = λ is. rose_later before.counts.takes mid.counts.takes now.counts.takes turns.cause.takes (answers.cause.read_fault is);
    write_fault = λ is. rose_later before.counts.gives mid.counts.gives now.counts.gives turns.cause.gives (answers.cause.write_fault is);
  };
}

pub answers_exit : {before now : Seen} (code : ℕ) → LinkTurns before now (Ok tt) → LinkAnswers before now (answer.Exited code)
answers_exit code turns = record {
  leaves = (turns.leaves.0, turns.leaves.1);
  cause = record { takes = turns.cause.takes; gives = turns.cause.gives; read_fault = λ is. absurd (let no : ⊥ = cc in no); write_fault = λ is. absurd (let no : ⊥ = cc in no) };
}
