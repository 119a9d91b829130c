-- The next event of a link comes into the log, while the guest asks for an item.
use Rattle.std.proofs.Math.ListN.{drop_of_length-le}
use Rattle.links.specs.declared.journal.Entry.TheVariants as entry
use Rattle.links.specs.declared.journal.LinkEvent.TheVariants as event
use Rattle.msg_frame.specs.Messages.{Parts, cut}
use Rattle.item_log.specs.declared.kinds.TheConstants.{OPENED, CLOSED}
use Rattle.item_log.specs.Connections.{rest_of, in_order}
use Rattle.item_log.specs.Log as logs
use Rattle.run_history.specs.declared.answer.Answer.TheVariants as answer
use Rattle.link_gate.proofs.Phasing.{phases_behind}
use Rattle.link_gate.proofs.Refusing.{IsEvent, events_behind, logged_keeps, limit_events, too_long, limit_items, is_heeded, keeps_items, heeded_without, events_ended, brings_more}
use Rattle.replay.proofs.Terms.{Bool, List, None, Option, Some, [], ap, arith, cond, drop, false, length, length-append, map, refl, subst, suc, sym, true, zero, ℕ, ◌++◌, ◌+◌, ◌<◌, ◌^◌, ◌∙◌, ◌∷◌, ◌≡◌, ◌≤◌, drop-append_seam, both_ways, eq-eqb, eqb-false, eqb-true, same_Some, Err, Ok, Result, if◌then◌else◌, slice_get, unwrap_or, ◌==◌, Item, LinkEvent, LinkFault, Memory, ReadFault, Refused, WriteFault, tells_then, Closed, IsInOrder, Open, Phases, StillComes, Tells, Told, events_in, phases_after, pieces_in, NextShows, Seen, Framing, bare_item, brought, hear, hear_parts, items_by, items_of, message_item, Fits, Log, logged, Image, Answer, closed_may, others_may, connections_after, IsLastRefused, Unheeded, heeded, items_in, received, refusal, phase_after, received_is, in_order_shown, Recorded, AreGiven, found_gone, AreAsked, IsAsking, IsReplay, Starved, WaitsForItem, bounds_of, AreOpen, AreOpenThen, IsWaiting, IsWholeEnd, Stage, WaitsBy, has, replay_of, HeedsEvent, LogsEvent, answer_of}
use Rattle.replay.specs.Giving as giving
use Rattle.replay.proofs.ReplayLemmas.{replay_more, replay_same}
use Rattle.replay.proofs.JournalLemmas.{asked_took, tells_still, pieces_in-took}
use Rattle.replay.proofs.OpenLemmas.{messages_open, item_opens, stays_then}
use Rattle.session_history.proofs.Causes.{last_taken-append}
use Rattle.link_gate.proofs.Answering.{not_end}

-- items with messages change no connection
messages_after : (conn : ℕ) (messages : List (List ℕ)) {connections : List Bool} (k : ℕ) (item : Item) → slice_get (map (message_item conn) messages) k ≡ Some item → connections_after item connections ≡ connections
messages_after conn [] k item here = absurd (cc)
messages_after conn (bytes ∷ messages) {connections = connections} zero item here =
    subst (λ (i : Item). connections_after i connections ≡ connections) (same_Some (message_item conn bytes) item here) refl
messages_after conn (bytes ∷ messages) (suc k) item here = messages_after conn messages k item here

module _ (phases after : Phases) (connections : List Bool) where
  -- where each open connection is open still
  opened_after : (event : LinkEvent) → AreOpen phases connections → ((conn : ℕ) → after conn ≡ phases_after event phases conn) → ((conn : ℕ) → phases conn ≡ Open → phases_after event phases conn ≡ Open) → AreOpen after connections
  opened_after event opened enters stays conn may_be = enters conn ∙ stays conn (opened conn may_be)

  opens_event : (place : ℕ) → AreOpen phases connections → ((conn : ℕ) → after conn ≡ phases_after (event.Opens place) phases conn) → AreOpen after (connections_after (bare_item OPENED place) connections)
  opens_event place opened enters =
      item_opens (bare_item OPENED place) connections
      (opened_after (event.Opens place) opened enters (λ conn was. stays (conn == place) conn was))
      (λ _. enters place ∙ ap (λ (b : Bool). if b then Open else phases place) (eq-eqb place place refl))
    where
      stays : (b : Bool) (conn : ℕ) → phases conn ≡ Open → (if b then Open else phases conn) ≡ Open
      stays true conn was = refl
      stays false conn was = was

  closes_event : (place : ℕ) → AreOpen phases connections → ((conn : ℕ) → after conn ≡ phases_after (event.Closes place) phases conn) → AreOpen after (connections_after (bare_item CLOSED place) connections)
  closes_event place opened enters conn may_be = by (conn == place) refl
    where
      by : (b : Bool) → conn == place ≡ b → after conn ≡ Open
      by true is =
          absurd (both_ways (has (connections_after (bare_item CLOSED place) connections) place) (closed_may (bare_item CLOSED place) connections refl)
          (ap (has (connections_after (bare_item CLOSED place) connections)) (sym (eqb-true conn place is)) ∙ may_be))
      by false is =
          enters conn ∙ ap (λ (b : Bool). if b then Closed else phases conn) is
          ∙ opened conn (sym (others_may (bare_item CLOSED place) connections conn (eqb-false conn place is)) ∙ may_be)

  parts_event : (conn : ℕ) (rests : List (Option (List ℕ))) (parts : Option Parts) → AreOpen after connections → AreOpenThen after (items_by (hear_parts rests conn parts)) connections
  parts_event conn rests None opened = opened
  parts_event conn rests (Some parts) opened =
      stays_then after (map (message_item conn) parts.messages) connections
      (messages_open (map (message_item conn) parts.messages) (messages_after conn parts.messages) opened)

  brought_event : (framing : Framing) (rests : List (Option (List ℕ))) (event : LinkEvent) → AreOpen phases connections → ((conn : ℕ) → after conn ≡ phases_after event phases conn)
      → AreOpenThen after (items_by (brought framing rests event)) connections
  brought_event framing rests (event.Opens place) opened enters = opens_event place opened enters
  brought_event framing rests (event.Piece place piece) opened enters =
      parts_event place rests (cut framing (unwrap_or (rest_of rests place) []) piece) (opened_after (event.Piece place piece) opened enters (λ conn was. was))
  brought_event framing rests (event.Closes place) opened enters = closes_event place opened enters
  brought_event framing rests event.Settles opened enters = opened_after event.Settles opened enters (λ conn was. was)
  brought_event framing rests event.Ends opened enters = opened_after event.Ends opened enters (λ conn was. was)

  -- behind an event in order its items leave each connection open that may be sent to
  pub event_open : (framing : Framing) (rests : List (Option (List ℕ))) (event : LinkEvent) → in_order rests event ≡ true → AreOpen phases connections → ((conn : ℕ) → after conn ≡ phases_after event phases conn)
      → AreOpenThen after (items_by (hear framing rests event)) connections
  event_open framing rests event order opened enters =
      subst (λ (b : Bool). AreOpenThen after (items_by (cond b (brought framing rests event) None)) connections) (sym order) (brought_event framing rests event opened enters)

no_end : {last : LinkEvent} → IsEvent last → Some last ≡ Some event.Ends → ⊥
no_end {last = last} one is =
    let none : [] ≡ last ∷ [] = ap (λ (e : LinkEvent). events_in (entry.Took e ∷ [])) (sym (same_Some last event.Ends is)) ∙ one in
    absurd (cc)

module _ {image : Image} {recording : Recorded} {began : Told} {seen : Seen} {stage : Stage} (waiting : IsWaiting image recording began seen stage) (none_left : logs.received stage.log ≤ stage.live.guest.machine.taken) where
  -- all that was received is taken
  all_taken : stage.live.guest.machine.taken ≡ received (bounds_of recording) waiting.playing.entries
  all_taken =
      omega (arith, none_left, received_is (bounds_of recording) waiting.playing.entries stage.log waiting.playing.base.items, waiting.playing.base.taken)

  asking : IsAsking image recording waiting.playing.entries (replay_of stage.choices waiting.playing.sends stage.live)
  asking = record {
    is = waiting.playing.base.is;
    waits = record { shorter = waiting.shorter; lives = waiting.lives; asks = waiting.asks; taken = all_taken };
    given = waiting.playing.given;
    heeds = waiting.playing.base.items.all_heeded;
    goes_on = waiting.playing.base.goes_on;
  }

  -- it waits still where one more event brings no item
  waits_still : (event : LinkEvent) → items_in (bounds_of recording) (waiting.playing.entries ++ entry.Took event ∷ []) ≡ items_in (bounds_of recording) waiting.playing.entries
      → WaitsForItem recording (waiting.playing.entries ++ entry.Took event ∷ []) (replay_of stage.choices waiting.playing.sends stage.live)
  waits_still event same = record { shorter = waiting.shorter; lives = waiting.lives; asks = waiting.asks; taken = all_taken ∙ ap length (sym same) }

  took : (event : LinkEvent) → AreAsked image recording (waiting.playing.entries ++ entry.Took event ∷ [])
  took event = asked_took event (record { replay = replay_of stage.choices waiting.playing.sends stage.live; asks = asking }) waiting.playing.base.asked

  -- each connection that may be sent to is open
  opened_now : AreOpen seen.phases stage.live.guest.machine.connections
  opened_now =
      let none : drop stage.live.guest.machine.taken (items_in (bounds_of recording) waiting.playing.entries) ≡ [] =
      drop_of_length-le (items_in (bounds_of recording) waiting.playing.entries) {i = stage.live.guest.machine.taken} (omega (arith, all_taken)) in
      subst (λ items. AreOpenThen seen.phases items stage.live.guest.machine.connections) none waiting.playing.base.connected

  given_still : (event : LinkEvent) → AreGiven waiting.playing.sends (pieces_in (waiting.playing.entries ++ entry.Took event ∷ []))
  given_still event = subst (AreGiven waiting.playing.sends) (sym (pieces_in-took waiting.playing.entries event)) waiting.playing.given

  in_order_now : (event : LinkEvent) → IsInOrder seen.phases event → in_order stage.log.rests event ≡ true
  in_order_now event order = in_order_shown recording.frame (events_in waiting.playing.entries) stage.log seen.phases event waiting.playing.base.items.shows waiting.playing.base.phases_are order

  -- an event is refused
  refused_last : {event : LinkEvent} {cause : Unheeded} → IsEvent event → refusal (bounds_of recording) (events_in waiting.playing.entries) event ≡ Some cause → IsLastRefused (bounds_of recording) (waiting.playing.entries ++ entry.Took event ∷ []) cause
  refused_last {event = event} one refused = record { before = waiting.playing.entries; event = event; last = refl; no_end = not_end _ one; refused = refused }

  -- and brings no item
  refused_items : {event : LinkEvent} {cause : Unheeded} → IsEvent event → refusal (bounds_of recording) (events_in waiting.playing.entries) event ≡ Some cause
      → items_in (bounds_of recording) (waiting.playing.entries ++ entry.Took event ∷ []) ≡ items_in (bounds_of recording) waiting.playing.entries
  refused_items {event = event} {cause = cause} one refused =
      ap (items_of recording.frame) (heeded_without (bounds_of recording) waiting.playing.entries event cause one waiting.playing.base.items.all_heeded refused)

  refused_waits : {event : LinkEvent} {cause : Unheeded} → IsEvent event → refusal (bounds_of recording) (events_in waiting.playing.entries) event ≡ Some cause
      → WaitsForItem recording (waiting.playing.entries ++ entry.Took event ∷ []) (replay_of stage.choices waiting.playing.sends stage.live)
  refused_waits {event = event} one refused = waits_still event (refused_items one refused)

  refused_replay : {event : LinkEvent} {cause : Unheeded} → IsEvent event → refusal (bounds_of recording) (events_in waiting.playing.entries) event ≡ Some cause
      → IsReplay image recording (waiting.playing.entries ++ entry.Took event ∷ []) (replay_of stage.choices waiting.playing.sends stage.live)
  refused_replay one refused = replay_same (refused_items one refused) waiting.playing.base.is

  tells_took : {told : Told} {event : LinkEvent} → Tells seen.told told (entry.Took event ∷ []) → Tells began told (waiting.playing.entries ++ entry.Took event ∷ [])
  tells_took {told = told} {event = event} tells = tells_then _ _ _ _ _ waiting.playing.base.tells tells

module _ {image : Image} {recording : Recorded} {began : Told} {seen : Seen} {later : Seen} {stage : Stage} (waiting : IsWaiting image recording began seen stage) (none_left : logs.received stage.log ≤ stage.live.guest.machine.taken) where
  -- an event is logged
  logs_event : {event : LinkEvent} {new : Log} → IsEvent event → NextShows seen later (Ok event) → stage.events < 2 ^ 32 → logged stage.log event ≡ Some new
      → Fits stage.log.max_items (logged stage.log event) → IsWaiting image recording began later (record stage { log = new; events = stage.events + 1 })
  logs_event {event = event} {new = new} one next few is fits =
      let entries = waiting.playing.entries in
      let base = waiting.playing.base in
      let bounds = bounds_of recording in
      let heeds = is_heeded bounds entries event stage.log one base.items (omega (arith, few, base.events)) fits in
      let more = items_by (hear recording.frame stage.log.rests event) in
      let brings : items_in bounds (entries ++ entry.Took event ∷ []) ≡ items_in bounds entries ++ more = brings_more _ _ _ _ one base.items heeds.allowed in
      let events : events_in (entries ++ entry.Took event ∷ []) ≡ events_in entries ++ event ∷ [] = events_behind bounds entries event one in
      let left : drop stage.live.guest.machine.taken (items_in bounds (entries ++ entry.Took event ∷ [])) ≡ more =
      ap (drop stage.live.guest.machine.taken) brings ∙ ap (λ (n : ℕ). drop n (items_in bounds entries ++ more)) (all_taken waiting none_left) ∙ drop-append_seam (items_in bounds entries) more in
      record {
        playing = record {
          entries = entries ++ entry.Took event ∷ [];
          sends = waiting.playing.sends;
          base = record {
            tells = tells_then _ _ _ _ _ base.tells next.told;
            asked = took waiting none_left event;
            is = replay_more more brings base.is;
            items = keeps_items bounds entries event stage.log new one base.items heeds.allowed is;
            goes_on = λ ended. no_end one (sym (last_taken-append entries _) ∙ ended);
            first = (logged_keeps stage.log new event is).0 ∙ base.first;
            events = omega (arith, base.events, ap length events ∙ length-append (events_in entries) (event ∷ []));
            phases_are = λ conn. next.order.1 conn ∙ phases_behind seen.phases (events_in entries) event base.phases_are next.order.0 conn ∙ ap (phase_after conn) (sym events);
            gone = λ conn. base.gone conn ∙ ap (found_gone conn) (sym (pieces_in-took entries event));
            places = base.places;
            taken = omega (arith, base.taken, ap length brings ∙ length-append (items_in bounds entries) more);
            connected = subst (λ items. AreOpenThen later.phases items stage.live.guest.machine.connections) (sym left)
                (event_open seen.phases later.phases stage.live.guest.machine.connections recording.frame stage.log.rests event (in_order_now waiting none_left event next.order.0) (opened_now waiting none_left) next.order.1);
            bare = base.bare;
          };
          given = given_still waiting none_left event;
        };
        lives = waiting.lives;
        shorter = waiting.shorter;
        asks = waiting.asks;
      }

  -- an event comes in, by the answer
  notes_event : {event : LinkEvent} (new : Stage) (result : Result (Unit {0}) Answer) → IsEvent event → NextShows seen later (Ok event) → LogsEvent event stage new result → WaitsBy image recording began later new result
  notes_event new (Ok done) one next did =
      subst (IsWaiting image recording began later) (sym did.3) (logs_event one next did.0 did.1 did.2)
  notes_event {event = event} new (Err answer.LimitEvents) one next did =
      let refused = limit_events (bounds_of recording) (events_in waiting.playing.entries) event (omega (arith, did.0, waiting.playing.base.events)) in
      subst (λ (s : Stage). IsWholeEnd image recording began later s answer.LimitEvents) (sym did.1) (record {
        entries = waiting.playing.entries ++ entry.Took event ∷ [];
        sends = waiting.playing.sends;
        tells = tells_took waiting none_left next.told;
        asked = took waiting none_left event;
        is = refused_replay waiting none_left one refused;
        ends = (refused_waits waiting none_left one refused, refused_last waiting none_left one refused, given_still waiting none_left event);
        failed = λ no. absurd (both_ways later.takes no next.takes);
        given = given_still waiting none_left event;
      })
  notes_event {event = event} new (Err (answer.MessageTooLong conn)) one next did =
      let refused = too_long (bounds_of recording) (events_in waiting.playing.entries) event stage.log waiting.playing.base.items.shows (omega (arith, did.0, waiting.playing.base.events)) did.1 in
      subst (λ (s : Stage). IsWholeEnd image recording began later s (answer.MessageTooLong conn)) (sym did.3) (record {
        entries = waiting.playing.entries ++ entry.Took event ∷ [];
        sends = waiting.playing.sends;
        tells = tells_took waiting none_left next.told;
        asked = took waiting none_left event;
        is = refused_replay waiting none_left one refused;
        ends = (refused_waits waiting none_left one refused, record { refused = record { before = waiting.playing.entries; event = event; last = refl; no_end = not_end _ one; refused = refused }; piece = did.2 }, given_still waiting none_left event);
        failed = λ no. absurd (both_ways later.takes no next.takes);
        given = given_still waiting none_left event;
      })
  notes_event {event = event} new (Err answer.LimitItems) one next did =
      let refused = limit_items (bounds_of recording) (events_in waiting.playing.entries) event stage.log waiting.playing.base.items.shows waiting.playing.base.items.most (omega (arith, did.0, waiting.playing.base.events)) did.1 in
      subst (λ (s : Stage). IsWholeEnd image recording began later s answer.LimitItems) (sym did.2) (record {
        entries = waiting.playing.entries ++ entry.Took event ∷ [];
        sends = waiting.playing.sends;
        tells = tells_took waiting none_left next.told;
        asked = took waiting none_left event;
        is = refused_replay waiting none_left one refused;
        ends = (refused_waits waiting none_left one refused, refused_last waiting none_left one refused, given_still waiting none_left event);
        failed = λ no. absurd (both_ways later.takes no next.takes);
        given = given_still waiting none_left event;
      })
  notes_event {event = event} new (Err answer.Memory) one next did =
      let heeds = is_heeded (bounds_of recording) waiting.playing.entries event stage.log one waiting.playing.base.items (omega (arith, did.0, waiting.playing.base.events)) did.1 in
      subst (λ (s : Stage). IsWholeEnd image recording began later s answer.Memory) (sym did.2) (record {
        entries = waiting.playing.entries ++ entry.Took event ∷ [];
        sends = waiting.playing.sends;
        tells = tells_took waiting none_left next.told;
        asked = took waiting none_left event;
        is = replay_more heeds.more heeds.brings waiting.playing.base.is;
        ends = giving.All waiting.playing.sends (pieces_in (waiting.playing.entries ++ entry.Took event ∷ [])) (given_still waiting none_left event);
        failed = λ no. absurd (both_ways later.takes no next.takes);
        given = given_still waiting none_left event;
      })
  notes_event new (Err answer.Finished) one next did = absurd did
  notes_event new (Err (answer.Exited code)) one next did = absurd did
  notes_event new (Err answer.BadWords) one next did = absurd did
  notes_event new (Err (answer.ElfRefused number)) one next did = absurd did
  notes_event new (Err (answer.AsmRefused kind line)) one next did = absurd did
  notes_event new (Err (answer.RecordRefused line)) one next did = absurd did
  notes_event new (Err (answer.ReportRefused line)) one next did = absurd did
  notes_event new (Err (answer.CountsRefused line)) one next did = absurd did
  notes_event new (Err (answer.Short conn)) one next did = absurd did
  notes_event new (Err (answer.Mismatch step)) one next did = absurd did
  notes_event new (Err answer.TooLarge) one next did = absurd did
  notes_event new (Err (answer.InputRefused kind offset)) one next did = absurd did
  notes_event new (Err (answer.GaveUp point cause)) one next did = absurd did
  notes_event new (Err answer.ReadFault) one next did = absurd did
  notes_event new (Err answer.WriteFault) one next did = absurd did
  notes_event new (Err answer.FileFault) one next did = absurd did

  -- the link has ended
  ends_link : later.takes ≡ true → Tells seen.told later.told (entry.Took event.Ends ∷ []) → StillComes later.coming (Ok event.Ends) → IsWholeEnd image recording began later stage (answer.Mismatch stage.live.steps)
  ends_link still tells last =
      let entries = waiting.playing.entries in
      let same : items_in (bounds_of recording) (entries ++ entry.Took event.Ends ∷ []) ≡ items_in (bounds_of recording) entries = ap (λ events. items_of recording.frame (heeded (bounds_of recording) events)) (events_ended (bounds_of recording) entries) in
      record {
        entries = entries ++ entry.Took event.Ends ∷ [];
        sends = waiting.playing.sends;
        tells = tells_took waiting none_left tells;
        asked = took waiting none_left event.Ends;
        is = replay_same same waiting.playing.base.is;
        ends = (refl, Starved (waits_still waiting none_left event.Ends same) (last_taken-append entries _), given_still waiting none_left event.Ends, λ _. last);
        failed = λ no. absurd (both_ways later.takes no still);
        given = given_still waiting none_left event.Ends;
      }

  pub heeds_event : (event : LinkEvent) (new : Stage) (result : Result (Unit {0}) Answer) → NextShows seen later (Ok event) → HeedsEvent event stage new result → WaitsBy image recording began later new result
  heeds_event (event.Opens conn) new result next did = notes_event new result refl next did
  heeds_event (event.Piece conn bytes) new result next did = notes_event new result refl next did
  heeds_event (event.Closes conn) new result next did = notes_event new result refl next did
  heeds_event event.Settles new result next did = notes_event new result refl next did
  heeds_event event.Ends new result next did =
      subst (WaitsBy image recording began later new) (sym did.0)
      (subst (λ (s : Stage). IsWholeEnd image recording began later s (answer.Mismatch stage.live.steps)) (sym did.1) (ends_link next.takes next.told next.last))

  -- no event was taken
  pub takes_none : (why : LinkFault) → NextShows seen later (Err why) → IsWholeEnd image recording began later stage (answer_of why)
  takes_none (Refused kind offset) next = record {
    entries = waiting.playing.entries;
    sends = waiting.playing.sends;
    tells = tells_still waiting.playing.base.tells next.told;
    asked = waiting.playing.base.asked;
    is = waiting.playing.base.is;
    ends = (asking waiting none_left, next.last);
    failed = λ _. asking waiting none_left;
    given = waiting.playing.given;
  }
  takes_none ReadFault next = record {
    entries = waiting.playing.entries;
    sends = waiting.playing.sends;
    tells = tells_still waiting.playing.base.tells next.told;
    asked = waiting.playing.base.asked;
    is = waiting.playing.base.is;
    ends = asking waiting none_left;
    failed = λ _. asking waiting none_left;
    given = waiting.playing.given;
  }
  takes_none WriteFault next = absurd next.grammar
  takes_none Memory next = record {
    entries = waiting.playing.entries;
    sends = waiting.playing.sends;
    tells = tells_still waiting.playing.base.tells next.told;
    asked = waiting.playing.base.asked;
    is = waiting.playing.base.is;
    ends = giving.All waiting.playing.sends (pieces_in waiting.playing.entries) waiting.playing.given;
    failed = λ _. asking waiting none_left;
    given = waiting.playing.given;
  }
