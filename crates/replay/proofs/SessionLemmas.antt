-- A session's record is replayed over the session's stream.
use Rattle.run_history.specs.declared.answer.Answer.TheVariants as answer
use Rattle.replay.proofs.Terms.{List, [], ap, append-nil, append_assoc, arith, inl, inr, length, length-append, refl, subst, sym, ℕ, ◌++◌, ◌∙◌, ◌∷◌, ◌≡◌, ◌≤◌, nil_from_length, Item, Prefix, Entry, LinkEvent, Ends, HasEnded, events_in, pieces_in, Seen, Choice, items_of, Image, Answer, State, IsAccount, Session, journal_of, Bounds, events_of, heeded, items_in, Rules, Recorded, AreGiven, AreAsked, HasReplayed, WasAsked, bounds_of, BringsFirst, HadOneStream, HasSession, IsNoMismatch, IsRecordOf}
use Rattle.replay.proofs.RecordLemmas.{begins, goes_on, starved_not, finished_gives, only_faults}
use Rattle.replay.proofs.RoomLemmas.{session_leaves_record}
use Rattle.replay.proofs.StreamLemmas.{two_fronts, items_grow, took_behind, ended_behind}
use Rattle.session_history.proofs.Heeded.{heeded_front}

-- where a replay asked for an event, it hasn't all items of the recorded run
asked_not : {image : Image} {items : List Item} {choices : List Choice} {state : State} {recording : Recorded} {before : List Entry} → IsRecordOf image items choices state recording → WasAsked image recording before → items ≡ items_in (bounds_of recording) before → ⊥
asked_not {items = items} {choices = choices} {recording = recording} {before = before} of_run was all =
    let bounds = bounds_of recording in
    let brings : BringsFirst bounds items before = record { more = []; first = all ∙ sym (append-nil (items_in bounds before)); all = λ ended. refl } in
    let replay = was.replay in
    let here = (begins was.asks.is brings of_run.lines of_run.ran.ran).ran in
    let on = goes_on here of_run.ran.ran was.asks.waits.shorter in
    let none : length items ≤ replay.state.machine.taken = omega (arith, ap length all, was.asks.waits.taken) in
    starved_not items choices replay.state was.asks.waits.asks none on.goes

module _ (image : Image) (bounds : Bounds) (journal : List Entry) (events : List LinkEvent) (choices : List Choice) (state : State) (recording : Recorded) (entries : List Entry)
    (asked : AreAsked image recording entries) (frame : recording.frame ≡ bounds.framing) (of_run : IsRecordOf image (items_in bounds journal) choices state recording) (stream : HadOneStream bounds events journal entries) where
  -- the events that the session heeded, and those that the replay heeded
  session_events : List LinkEvent
  session_events = heeded bounds (events_of bounds journal)

  replay_events : List LinkEvent
  replay_events = heeded (bounds_of recording) (events_in entries)

  items_are : items_in bounds journal ≡ items_of recording.frame session_events
  unfolding session_events
  items_are = ap (λ framing. items_of framing (heeded bounds (events_of bounds journal))) (sym frame)

  -- each is a front of the stream
  session_front : Prefix session_events events
  unfolding session_events
  session_front =
      let front = heeded_front bounds [] (events_of bounds journal) in
      (front.0 ++ stream.session_took.0, sym (append_assoc (heeded bounds (events_of bounds journal)) front.0 stream.session_took.0) ∙ ap (λ es. es ++ stream.session_took.0) front.1 ∙ stream.session_took.1)

  replay_front : Prefix replay_events events
  unfolding replay_events
  replay_front =
      let front = heeded_front (bounds_of recording) [] (events_in entries) in
      (front.0 ++ stream.replay_took.0, sym (append_assoc (heeded (bounds_of recording) (events_in entries)) front.0 stream.replay_took.0) ∙ ap (λ es. es ++ stream.replay_took.0) front.1 ∙ stream.replay_took.1)

  -- the replay took no event behind those of the session
  not_behind : (event : LinkEvent) (mid : List LinkEvent) → replay_events ≡ session_events ++ event ∷ mid → ⊥
  unfolding session_events replay_events
  not_behind event mid longer =
      let front = heeded_front (bounds_of recording) [] (events_in entries) in
      let took = took_behind entries session_events (mid ++ front.0) (sym front.1 ∙ ap (λ es. es ++ front.0) longer ∙ append_assoc session_events (event ∷ mid) front.0) in
      let was = asked took.before took.after event took.split in
      asked_not of_run was
      (items_are ∙ ap (items_of recording.frame) (sym (was.asks.heeds ∙ took.events)))

  -- so the replay's are the first of the session's
  replay_first : Prefix replay_events session_events
  replay_first =
      elim (two_fronts session_events session_front.0 replay_events replay_front.0 (session_front.1 ∙ sym replay_front.1)) [
        | inl front ↦ front
        | inr longer ↦ absurd (not_behind longer.0 longer.1 longer.2)
      ]

  -- and all of them, where its link has ended
  all_events : HasEnded entries → replay_events ≡ events
  unfolding replay_events
  all_events ended =
      let took = ended_behind entries ended in
      subst (λ es. heeded (bounds_of recording) es ≡ es) took.events (asked took.before took.after Ends took.split).asks.heeds ∙ stream.all ended

  pub stream_brings : BringsFirst (bounds_of recording) (items_in bounds journal) entries
  unfolding replay_events
  stream_brings =
      let front = items_grow recording.frame replay_events replay_first in
      record { more = front.0; first = items_are ∙ sym front.1; all = λ ended. none_more ended front.0 front.1 }
    where
      none_more : HasEnded entries → (more : List Item) → items_of recording.frame replay_events ++ more ≡ items_of recording.frame session_events → more ≡ []
      none_more ended more same =
          let other = length-append replay_events replay_first.0 in
          let last : length replay_first.0 ≡ 0 = omega (arith, ap length (all_events ended), ap length session_front.1, length-append session_events session_front.0, ap length replay_first.1, other) in
          let alike : session_events ≡ replay_events = sym replay_first.1 ∙ ap (λ es. replay_events ++ es) (nil_from_length replay_first.0 last) ∙ append-nil replay_events in
          nil_from_length more (omega (arith, ap (λ es. length (items_of recording.frame es)) alike, ap length same, length-append (items_of recording.frame replay_events) more))

pub one_stream_brings : (image : Image) (bounds : Bounds) (journal : List Entry) (events : List LinkEvent) (choices : List Choice) (state : State) (recording : Recorded) (began now : Seen) (end : Answer) (before after : ℕ)
    (replayed : HasReplayed image recording began now end before after)
    → recording.frame ≡ bounds.framing → IsRecordOf image (items_in bounds journal) choices state recording → HadOneStream bounds events journal replayed.entries → BringsFirst (bounds_of recording) (items_in bounds journal) replayed.entries
one_stream_brings image bounds journal events choices state recording began now end before after replayed frame of_run stream =
    stream_brings image bounds journal events choices state recording replayed.entries replayed.asked frame of_run stream

pub session_is_replayed : (rules : Rules) (image : Image) (session : Session) (events : List LinkEvent) (recording : Recorded) (began now : Seen) (end : Answer) (before after : ℕ)
    (replayed : HasReplayed image recording began now end before after)
    → IsAccount rules image session → HasSession rules session recording → HadOneStream rules.bounds events (journal_of session) replayed.entries
    → IsNoMismatch recording replayed.entries now.coming end × (end ≡ answer.Finished → (replayed.replay.choices ≡ session.survivor.now.choices) × AreGiven session.survivor.now.state.sends (pieces_in replayed.entries))
session_is_replayed rules image session events recording began now end before after replayed account has stream =
    let state = session.survivor.now.state in
    let choices = session.survivor.now.choices in
    let of_run = session_leaves_record rules image session recording account has in
    let brings = stream_brings image rules.bounds (journal_of session) events choices state recording replayed.entries replayed.asked has.frame of_run stream in (
      only_faults image (items_in rules.bounds (journal_of session)) choices state recording began now end before after replayed of_run brings,
      λ finished.
          let gives = finished_gives now.coming replayed.is of_run brings end finished replayed.ends in
          (gives.1, gives.2),
    )
