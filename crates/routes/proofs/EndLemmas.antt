-- Sessions over a trunk: where all is well no other answer comes, and at an end the frames of all sends were written.
use Rattle.links.specs.declared.journal.Entry.TheVariants as entry
use Rattle.session_history.specs.declared.ends.SessionEnd.TheVariants as session_end
use Rattle.session_history.specs.declared.ends.Stop.TheVariants as stop
use Rattle.session_history.specs.Heeding as unheeded
use Rattle.session_history.specs.Opened.{is_gone}
use Rattle.session_history.specs.Giving.{AreGiven}
use Rattle.session_history.specs.Ends.{EndsBy}
use Rattle.session_history.proofs.Endings.{events_in-given, received_at_end, given_broken}
use Rattle.session_history.proofs.Turns.{links_open_once}
use Rattle.session_history.proofs.Sent.{sent_is_passed}
use Rattle.session_history.specs.Lawful.{entries_of}
use Rattle.routes.proofs.Terms.{Bool, List, None, Option, Some, [], ap, append-nil, append_assoc, arith, false, inl, inr, length, length-append, refl, subst, sym, true, ℕ, ◌++◌, ◌<◌, ◌==◌, ◌∙◌, ◌∷◌, ◌≡◌, none-some, Appends, AllByRecursion, IfSome, ◌&&◌, ◌||◌, IsDrained, Stream, Took, Prefix, Entry, LinkEvent, Coming, Phases, Piece, events_in, phases_after, pieces_in, IsSent, framed_sent, IsRefused, AreFramesOf, frames, AreInOrder, phases_behind, fresh, Image, SessionEnd, Stop, at_its_end, came_to, events_alone, events_of-append, Session, journal_of, AreInTurn, IsComplete, AtEnd, HasComeTo, IsEnded, IsLastRefused, before_end, Unheeded, events_of, nothing_before, Rules, StopsTrunk, TookRefused, WritesWhole, WritesSends}
use Rattle.routes.specs.EndLaws.{AreAllHeeded, NoOtherEnd, SendsAreWritten}
use Rattle.routes.proofs.FrameFronts.{none_behind, whole_reading, next_frame}
use Rattle.routes.proofs.HeededFronts.{event_counts, heeded_next}
use Rattle.routes.proofs.SameBytes.{left_is, whole_not}

-- what is refused has a byte at least
some_refused : (phases : Phases) (drained : Type 0) (kind : ℕ) (tail : List ℕ) → IsRefused phases drained kind tail → 0 < length tail
some_refused phases drained kind tail (inl bad) = let five = bad.1 in omega (arith, five)
some_refused phases drained kind tail (inr cut) = cut.2

-- a session that passes pieces alone at its end took all of its events before
events_at_end : (session : Session) → AreGiven session.ending → AreGiven session.broken → events_in (journal_of session) ≡ events_in (before_end session)
events_at_end session ending broken =
    let before : List Entry = before_end session in
    let whole : journal_of session ≡ (before ++ session.ending) ++ session.broken =
    sym (append_assoc (entries_of session.earlier) session.since (session.ending ++ session.broken)) ∙ sym (append_assoc before session.ending session.broken) in
    ap events_in whole ∙ (events_in-given (before ++ session.ending) session.broken broken ∙ events_in-given before session.ending ending)

-- events in order are so, by another word
in_turn : (phases : Phases) (events : List LinkEvent) → AreInOrder phases events → AreInTurn phases events
in_turn phases [] are = tt
in_turn phases (first ∷ events) are = (are.0, in_turn (phases_after first phases) events are.1)

-- pieces that a trunk wrote found no connection gone
none_gone : (conn : ℕ) (entries : List Entry) → AllByRecursion IsSent (pieces_in entries) → is_gone conn entries ≡ false
none_gone conn [] all = refl
none_gone conn (entry.Took event ∷ entries) all = none_gone conn entries all
none_gone conn (entry.Gave to bytes gone ∷ entries) all =
    ap (λ (b : Bool). ((to == conn) && b) || is_gone conn entries) all.0.whole
    ∙ ap (λ (rest : Bool). ((to == conn) && false) || rest) (none_gone conn entries all.1) ∙ off (to == conn)
  where
    off : (b : Bool) → ((b && false) || false) ≡ false
    off true = refl
    off false = refl

-- the frames of all sends were written, by what was passed
written : {rules : Rules} {image : Image} {coming : Option Coming} {session : Session} {end : SessionEnd} (sink later : Option (List ℕ)) → IsEnded rules image coming session (stop.Ends end) → rules.bounds.before ≡ nothing_before → AreInOrder fresh (events_of rules.bounds (journal_of session))
    → session.earlier ≡ [] → rules.hold ≡ 0 → WritesWhole sink later (pieces_in (journal_of session)) → WritesSends sink later session.survivor.now.state.sends
written None later is alone order first holds_nothing whole = tt
written {rules = rules} {image = image} {session = session} {end = end} (Some before) later is alone order first holds_nothing whole =
    let ends = at_its_end rules session end is.ends in
    let passed = sent_is_passed rules image session (record {
      account = is.account;
      alone = alone;
      first = first;
      given = is.pieces;
      unbroken = ends.unbroken;
      owes_nothing = ends.owes_nothing;
      holds_nothing = holds_nothing;
      none_gone = λ conn. none_gone conn (journal_of session) (framed_sent (pieces_in (journal_of session)) whole.framed);
      opens_once = links_open_once fresh (events_in (journal_of session)) (in_turn fresh (events_in (journal_of session)) (subst (AreInOrder fresh) (events_alone rules.bounds (journal_of session) alone) order));
    }) in
    subst (λ (pieces : List Piece). Appends (Some before) later (frames pieces)) passed whole.wrote

written_at : {rules : Rules} {image : Image} {coming : Option Coming} {session : Session} (why : Stop) (sink later : Option (List ℕ)) → IsEnded rules image coming session why → rules.bounds.before ≡ nothing_before → AreInOrder fresh (events_of rules.bounds (journal_of session))
    → AtEnd why (λ end. WritesWhole sink later (pieces_in (journal_of session))) → AtEnd why (λ end. session.earlier ≡ [] → rules.hold ≡ 0 → WritesSends sink later session.survivor.now.state.sends)
written_at (stop.Ends end) sink later is alone order whole = λ first holds_nothing. written sink later is alone order first holds_nothing whole
written_at (stop.Breaks fault) sink later is alone order whole = tt

pub sends_are_written : SendsAreWritten
sends_are_written rules keeping image input input_later output output_later outcome noted_before noted_now counted served alone =
    written_at outcome.stop output output_later served.is.is.ended alone served.goes.took.order served.goes.wrote_whole

-- Of a session whose source has the frames of events that it heeds, each of them: the events that it took are the first of these.
module _ {rules : Rules} {image : Image} {coming : Option Coming} {session : Session} {why : Stop} (is : IsEnded rules image coming session why) (input : Stream) (input_later : Option Stream)
    (well : AreAllHeeded rules.bounds input.left) (order : AreInOrder fresh (events_of rules.bounds (journal_of session))) where
  front_of : (whole tail : List ℕ) → AreFramesOf (events_of rules.bounds (journal_of session)) whole → Took (Some input) input_later (whole ++ tail) → Prefix (events_of rules.bounds (journal_of session)) well.events
  front_of whole tail are took =
      let behind = left_is input input_later (whole ++ tail) took in
      whole_reading fresh (events_of rules.bounds (journal_of session)) well.events whole (tail ++ behind.0) input.left order well.order are well.are (sym (behind.1 ∙ append_assoc whole tail behind.0))

  -- none of them is refused
  refused_not : Prefix (events_of rules.bounds (journal_of session)) well.events → (cause : Unheeded) → IsLastRefused rules.bounds (before_end session) cause → ⊥
  refused_not front cause last =
      let events : events_of rules.bounds (journal_of session) ≡ events_of rules.bounds last.before ++ last.event ∷ [] =
      ap (λ (es : List LinkEvent). rules.bounds.before.events ++ es) (events_at_end session is.pieces (given_broken rules session.survivor.now.state.sends _ session.broken is.account.broken))
      ∙ ap (events_of rules.bounds) last.last ∙ events_of-append rules.bounds last.before (entry.Took last.event ∷ [])
      ∙ ap (λ (es : List LinkEvent). events_of rules.bounds last.before ++ es) (event_counts last.event last.no_end) in
      let whole : well.events ≡ events_of rules.bounds last.before ++ last.event ∷ front.0 =
      sym front.1 ∙ ap (λ (es : List LinkEvent). es ++ front.0) events ∙ append_assoc (events_of rules.bounds last.before) (last.event ∷ []) front.0 in
      none-some cause (sym (heeded_next rules.bounds [] well.events (events_of rules.bounds last.before) last.event front.0 (well.all_heeded ∙ whole)) ∙ last.refused)

  -- and no frame is
  taken_not : (kind offset : ℕ) → TookRefused (Some input) input_later (events_of rules.bounds (journal_of session)) kind offset → ⊥
  taken_not kind offset took = by_rest front.0 front.1
    where
      behind : (rest : List ℕ) × (input.left ≡ (took.whole ++ took.tail) ++ rest) × (IsDrained input_later → rest ≡ [])
      behind = left_is input input_later (took.whole ++ took.tail) took.took

      front : Prefix (events_of rules.bounds (journal_of session)) well.events
      front = front_of took.whole took.tail took.are took.took

      parts : input.left ≡ took.whole ++ (took.tail ++ behind.0)
      parts = behind.1 ∙ append_assoc took.whole took.tail behind.0

      by_rest : (rest : List LinkEvent) → events_of rules.bounds (journal_of session) ++ rest ≡ well.events → ⊥
      by_rest [] same =
          let all : AreFramesOf (events_of rules.bounds (journal_of session)) input.left = subst (λ (es : List LinkEvent). AreFramesOf es input.left) (sym same ∙ append-nil (events_of rules.bounds (journal_of session))) well.are in
          let some = some_refused (phases_behind (events_of rules.bounds (journal_of session)) fresh) (IsDrained input_later) kind took.tail took.refused in
          omega (arith, ap length (none_behind fresh (events_of rules.bounds (journal_of session)) took.whole (took.tail ++ behind.0) input.left order took.are all (sym parts)), length-append took.tail behind.0, some)
      by_rest (next ∷ rest) same =
          let whole = next_frame fresh well.events (events_of rules.bounds (journal_of session)) rest next input.left [] took.whole (took.tail ++ behind.0) well.order order well.are took.are (sym same) (append-nil input.left ∙ parts) in
          whole_not (phases_behind (events_of rules.bounds (journal_of session)) fresh) (IsDrained input_later) kind took.tail behind.0 next took.refused behind.2 whole

  -- so no other answer comes
  answers_so : Prefix (events_of rules.bounds (journal_of session)) well.events → IfSome session.came (StopsTrunk (Some input) input_later (events_of rules.bounds (journal_of session))) → (stopped : Stop) → EndsBy rules session stopped → IsComplete rules session stopped
  answers_so front stops (stop.Ends session_end.Finished) ends =
      let to : HasComeTo rules coming session session_end.Finished = came_to is.comes ends.came in
      to.stands.0.taken ∙ ap length (sym (received_at_end rules.bounds session is.pieces (given_broken rules session.survivor.now.state.sends _ session.broken is.account.broken)))
  answers_so front stops (stop.Ends (session_end.Exited code)) ends = tt
  answers_so front stops (stop.Ends (session_end.GaveUp point cause)) ends = tt
  answers_so front stops (stop.Ends (session_end.InputRefused kind offset)) ends =
      taken_not kind offset (subst (λ (came : Option SessionEnd). IfSome came (StopsTrunk (Some input) input_later (events_of rules.bounds (journal_of session)))) ends.came stops)
  answers_so front stops (stop.Ends (session_end.MessageTooLong conn)) ends =
      let to : HasComeTo rules coming session (session_end.MessageTooLong conn) = came_to is.comes ends.came in
      refused_not front unheeded.TooLong to.stands.1.refused
  answers_so front stops (stop.Ends session_end.LimitItems) ends =
      let to : HasComeTo rules coming session session_end.LimitItems = came_to is.comes ends.came in
      refused_not front unheeded.LimitItems to.stands.1
  answers_so front stops (stop.Ends session_end.LimitEvents) ends =
      let to : HasComeTo rules coming session session_end.LimitEvents = came_to is.comes ends.came in
      refused_not front unheeded.LimitEvents to.stands.1
  answers_so front stops (stop.Breaks fault) ends = tt

pub no_other_end : NoOtherEnd
no_other_end rules keeping image input input_later output output_later outcome noted_before noted_now counted served well =
    let is = served.is.is.ended in
    let took = served.goes.took in
    answers_so is input input_later well took.order (front_of is input input_later well took.order took.whole took.tail took.are took.took) served.goes.stops outcome.stop is.ends
