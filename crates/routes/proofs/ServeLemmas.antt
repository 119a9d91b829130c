-- What a session over a trunk leaves, by what it leaves over a link.
use Rattle.session_history.specs.declared.ends.SessionBreak.TheVariants as session_break
use Rattle.session_history.specs.declared.ends.SessionEnd.TheVariants as session_end
use Rattle.session_history.specs.declared.ends.Stop.TheVariants as stop
use Rattle.links.proofs.Growing.{grew_more, tells_nothing}
use Rattle.session_state.proofs.ending.KnownLemmas.{known_same, known_then}
use Rattle.routes.proofs.Terms.{All, Bool, List, None, Option, Some, [], ap, false, inl, inr, length, option_map, refl, subst, sym, true, ℕ, ◌++◌, ◌∙◌, ◌≡◌, fun_ext, same_Some, Appends, IfSome, IsSome, is_some, IsDrained, Stream, Took, Entry, LinkEvent, Coming, Grew, Handed, IsFresh, Piece, Tells, Told, events_in, pieces_in, Seen, Countable, count_after, frames, AreInOrder, GivesOn, Intake, IsCut, IsFramed, IsTail, Output, TakesOn, TookFrames, WroteFrames, phases_behind, fresh, told_coming, told_events, told_nothing, told_pieces, trunk_told, Image, SessionBreak, SessionEnd, Stop, end_then, Session, after_ending, journal_of, AtBreak, HandedLast, HasComeTo, StaysKnown, TakesAtEnd, WasAsked, answer_of, before_end, HasHanded, Before, Bounds, events_of, nothing_before, Rules, Try, Noted, Unnoted, Keeping, stands_of, HandledAt, HandlesRequests, HasKept, HasLeft, LeavesBy, keeping_of, HasWatched, Outcome, Telling, BreaksAt, LinkAnswers, outcome_of, SessionState, BreaksTrunk, Carries, StopsTrunk, TakesNoPart, TakesTrunk, TookTrunk, WritesTrunk, WritesWhole, HeadsAt, HeadsDue, HeadsTrunk, IsRecordedLow, IsRecordedUpTo, RecordsAt, Trunk, Watches}
use Rattle.routes.proofs.WriteLemmas.{wrote_headed, Short, wrote_trunk, wrote_frames}
use Rattle.recovery.proofs.Handled.{has_ring}
use Rattle.routes.proofs.ReadLemmas.{tail_none, tail_asked, events_told, stands_behind}
use Rattle.routes.proofs.StopLemmas.{HasTaken, stops_at, took_no_part}
use Rattle.routes.proofs.PayloadLemmas.{carried}

-- what a link comes to
abbrev pub upcoming : Intake → Option Coming
upcoming intake = told_coming intake.told intake.took intake.phases intake.takes intake.refused

-- what was taken, where the source tells its bytes
pub has_taken : (old new : Intake) (before : Stream) (list : List LinkEvent) → old.told ≡ Some before → IsFresh old.phases → old.took ≡ 0 → Countable new.told → TookFrames old new
    → Grew (Some []) (told_events new.told new.took new.phases new.takes) list → HasTaken new before list
has_taken old new before list told is_fresh none few went grew =
    let start : old.phases ≡ fresh = fun_ext is_fresh in
    let order : AreInOrder fresh went.events = subst (λ phases. AreInOrder phases went.events) start went.order in
    let read : Took (Some before) new.told (went.whole ++ went.tail) = subst (λ source. Took source new.told (went.whole ++ went.tail)) told went.reads.took in
    let count : new.took ≡ count_after 0 (length (went.whole ++ went.tail)) = went.reads.count ∙ ap (λ n. count_after n (length (went.whole ++ went.tail))) none in
    let next : (conn : ℕ) → new.phases conn ≡ phases_behind went.events fresh conn = λ conn. went.phases conn ∙ ap (λ phases. phases_behind went.events phases conn) start in
    let tail_from : IsTail (phases_behind went.events old.phases) (IsDrained new.told) (count_after 0 (length went.whole)) new.takes new.refused went.tail =
    subst (λ n. IsTail (phases_behind went.events old.phases) (IsDrained new.told) (count_after n (length went.whole)) new.takes new.refused went.tail) none went.is_tail in
    let tail : IsTail (phases_behind went.events fresh) (IsDrained new.told) (count_after 0 (length went.whole)) new.takes new.refused went.tail =
    subst (λ phases. IsTail (phases_behind went.events phases) (IsDrained new.told) (count_after 0 (length went.whole)) new.takes new.refused went.tail) start tail_from in
    let no_event = tail_none (phases_behind went.events fresh) (IsDrained new.told) (count_after 0 (length went.whole)) new.takes new.refused went.tail tail in
    let same : went.events ≡ list = events_told before new.told new.took new.phases new.takes list went.events went.whole went.tail few read count order went.are no_event grew in
    let found : HasTaken new before went.events = record { whole = went.whole; tail = went.tail; order = order; are = went.are; took = read; count = count; phases = next; is_tail = tail } in
    subst (λ events. HasTaken new before events) same found

took_trunk : (new : Intake) (before : Stream) (list : List LinkEvent) (Asked : Type 0) → Countable new.told → HasTaken new before list → (new.takes ≡ false → Asked) → TookTrunk (Some before) new.told list (upcoming new) Asked
took_trunk new before list Asked few taken asked = record {
  whole = taken.whole;
  tail = taken.tail;
  order = taken.order;
  are = taken.are;
  took = taken.took;
  behind = stands_behind list before new.told new.took new.phases new.takes new.refused taken.whole taken.tail few taken.took taken.count taken.phases taken.is_tail;
  asked = λ some. asked (tail_asked (phases_behind list fresh) (IsDrained new.told) (count_after 0 (length taken.whole)) new.takes new.refused taken.tail taken.is_tail some);
}

pub takes_trunk : (old new : Intake) (list : List LinkEvent) (Asked : Type 0) → (new.takes ≡ false → Asked) → IsFresh old.phases → old.took ≡ 0 → Countable new.told → TookFrames old new
    → Grew (option_map (λ _. []) old.told) (told_events new.told new.took new.phases new.takes) list → TakesTrunk old.told new.told list (upcoming new) Asked
takes_trunk old new list Asked asked is_fresh none few went grew = by_told old.told refl grew
  where
    by_told : (before : Option Stream) → old.told ≡ before → Grew (option_map (λ _. []) before) (told_events new.told new.took new.phases new.takes) list → TakesTrunk before new.told list (upcoming new) Asked
    by_told None told grew = tt
    by_told (Some before) told grew = took_trunk new before list Asked few (has_taken old new before list told is_fresh none few went grew) asked

-- what comes was told at the start, where the source tells its bytes
pub known_still : (old : Intake) (before : Stream) (next : Option Coming) → old.told ≡ Some before → old.takes ≡ true → StaysKnown (upcoming old) next → IsSome next
known_still old before next told takes known =
    by_takes old.takes takes (subst (λ source. StaysKnown (told_coming source old.took old.phases old.takes old.refused) next) told known)
  where
    by_takes : (takes : Bool) → takes ≡ true → StaysKnown (told_coming (Some before) old.took old.phases takes old.refused) next → IsSome next
    by_takes true is known = known
    by_takes false is known = let no : ⊥ = cc in absurd no

-- at an end that the session came to, by what is known of the link there
stops_trunk : {rules : Rules} {session : Session} (old new : Intake) (list : List LinkEvent) (end : SessionEnd) → IsFresh old.phases → old.took ≡ 0 → old.takes ≡ true → Countable new.told → TookFrames old new
    → Grew (option_map (λ _. []) old.told) (told_events new.told new.took new.phases new.takes) list → TakesAtEnd new.takes end → StaysKnown (upcoming old) (upcoming new)
    → HasComeTo rules (upcoming new) session end → StopsTrunk old.told new.told list end
stops_trunk old new list end is_fresh none takes few went grew still known come = by_told old.told refl grew
  where
    by_told : (before : Option Stream) → old.told ≡ before → Grew (option_map (λ _. []) before) (told_events new.told new.took new.phases new.takes) list → StopsTrunk before new.told list end
    by_told None told grew = tt
    by_told (Some before) told grew =
        stops_at new before list end few (has_taken old new before list told is_fresh none few went grew) still (known_still old before (upcoming new) told takes known) come

-- if it came to one
stops_if : (rules : Rules) (session : Session) (came : Option SessionEnd) (old new : Intake) (list : List LinkEvent) → IsFresh old.phases → old.took ≡ 0 → old.takes ≡ true → Countable new.told → TookFrames old new
    → Grew (option_map (λ _. []) old.told) (told_events new.told new.took new.phases new.takes) list → IfSome came (λ end. TakesAtEnd new.takes end × StaysKnown (upcoming old) (upcoming new))
    → IfSome came (HasComeTo rules (upcoming new) session) → IfSome came (StopsTrunk old.told new.told list)
stops_if rules session None old new list is_fresh none takes few went grew known come = tt
stops_if rules session (Some end) old new list is_fresh none takes few went grew known come = stops_trunk old new list end is_fresh none takes few went grew known.0 known.1 come

-- what was written, where the sink tells its bytes
wrote_told : (old new : Output) (before : List ℕ) (bytes : List ℕ) → old.told ≡ Some before → Appends old.told new.told bytes → Appends (Some before) new.told bytes
wrote_told old new before bytes told wrote = subst (λ sink. Appends sink new.told bytes) told wrote

wrote_count : (old new : Output) (bytes : List ℕ) → old.wrote ≡ 0 → new.wrote ≡ count_after old.wrote (length bytes) → new.wrote ≡ count_after 0 (length bytes)
wrote_count old new bytes none count = count ∙ ap (λ n. count_after n (length bytes)) none

pub writes_trunk : (old new : Output) (list : List Piece) → old.wrote ≡ 0 → Short new.told → WroteFrames old new → Grew (option_map (λ _. []) old.told) (told_pieces new.told new.wrote new.gives) list → WritesTrunk old.told new.told list
writes_trunk old new list none few went grew = by_told old.told refl grew
  where
    by_told : (before : Option (List ℕ)) → old.told ≡ before → Grew (option_map (λ _. []) before) (told_pieces new.told new.wrote new.gives) list → WritesTrunk before new.told list
    by_told None told grew = tt
    by_told (Some before) told grew =
        wrote_trunk before new.told new.wrote new.gives new.handed list went.pieces went.tail few (wrote_told old new before (frames went.pieces ++ went.tail) told went.writes.wrote)
        (wrote_count old new (frames went.pieces ++ went.tail) none went.writes.count) went.framed went.cut grew

pub writes_whole : (old new : Output) (list : List Piece) → old.wrote ≡ 0 → Short new.told → WroteFrames old new → new.gives ≡ true → Grew (option_map (λ _. []) old.told) (told_pieces new.told new.wrote new.gives) list → WritesWhole old.told new.told list
writes_whole old new list none few went still grew = by_told old.told refl grew
  where
    by_told : (before : Option (List ℕ)) → old.told ≡ before → Grew (option_map (λ _. []) before) (told_pieces new.told new.wrote new.gives) list → WritesWhole before new.told list
    by_told None told grew = tt
    by_told (Some before) told grew =
        wrote_frames before new.told new.wrote new.gives new.handed list went.pieces went.tail few (wrote_told old new before (frames went.pieces ++ went.tail) told went.writes.wrote)
        (wrote_count old new (frames went.pieces ++ went.tail) none went.writes.count) went.framed went.cut still grew

carries : (bounds : Bounds) (old new : Output) (entries : List Entry) → old.wrote ≡ 0 → Short new.told → WroteFrames old new → Grew (option_map (λ _. []) old.told) (told_pieces new.told new.wrote new.gives) (pieces_in entries)
    → Carries bounds old.told new.told entries
carries bounds old new entries none few went grew = by_told old.told refl grew
  where
    by_told : (before : Option (List ℕ)) → old.told ≡ before → Grew (option_map (λ _. []) before) (told_pieces new.told new.wrote new.gives) (pieces_in entries) → Carries bounds before new.told entries
    by_told None told grew = tt
    by_told (Some before) told grew =
        carried bounds before new.told new.wrote new.gives entries (frames went.pieces ++ went.tail) few (wrote_told old new before (frames went.pieces ++ went.tail) told went.writes.wrote)
        (wrote_count old new (frames went.pieces ++ went.tail) none went.writes.count) grew

-- what is known of a piece that was handed, where the pieces are told
known_handed : (told : Option (List Piece)) (list : List Piece) {P : Type 0} → Grew (Some []) told list → IfSome told (λ pieces. P) → P
known_handed None list grew known = absurd grew
known_handed (Some pieces) list grew known = known

-- the cut frame is headed as that of a piece that was due
headed : {rules : Rules} {session : Session} (before : List ℕ) (new : Output) (seen : Seen) → Short new.told → (went : List Piece) (tail : List ℕ) → Appends (Some before) new.told (frames went ++ tail)
    → new.wrote ≡ count_after 0 (length (frames went ++ tail)) → All IsFramed went → IsCut false new.handed tail → Grew (Some []) (told_pieces new.told new.wrote false) (pieces_in (journal_of session))
    → (has : HasHanded rules session.survivor.now.state.sends (after_ending session (is_some session.came)) session.broken seen) → new.handed ≡ Some (record { conn = has.conn; length = length has.bytes })
    → HeadsDue rules session (Some before) new.told
headed {session = session} before new seen few went tail gained count framed cut grew has handed =
    let list = pieces_in (journal_of session) in
    let trunk = wrote_headed before new.told new.wrote new.handed list went tail few gained count framed cut grew in
    let same = same_Some (record { conn = trunk.0.cut.conn; length = length trunk.0.cut.bytes }) (record { conn = has.conn; length = length has.bytes }) (sym trunk.1 ∙ handed) in
    record {
      wrote = trunk.0;
      conn = has.conn;
      bytes = has.bytes;
      whole = has.whole;
      front = has.front;
      first = has.first;
      broken_is = has.broken_is;
      conn_is = ap (λ (piece : Handed). piece.conn) same;
      length_is = ap (λ (piece : Handed). piece.length) same;
    }

-- where it gives no more
heads_trunk : (rules : Rules) (session : Session) (old new : Output) (seen : Seen) → old.wrote ≡ 0 → Short new.told → WroteFrames old new → seen.gives ≡ new.gives → seen.handed ≡ new.handed → seen.told.pieces ≡ told_pieces new.told new.wrote new.gives
    → Grew (option_map (λ _. []) old.told) (told_pieces new.told new.wrote new.gives) (pieces_in (journal_of session)) → (seen.gives ≡ false) × HasHanded rules session.survivor.now.state.sends (after_ending session (is_some session.came)) session.broken seen → HeadsTrunk rules session old.told new.told
heads_trunk rules session old new seen none few went gives same told grew (off, has) = by_told old.told refl grew
  where
    no_more : new.gives ≡ false
    no_more = sym gives ∙ off

    by_told : (before : Option (List ℕ)) → old.told ≡ before → Grew (option_map (λ _. []) before) (told_pieces new.told new.wrote new.gives) (pieces_in (journal_of session)) → HeadsTrunk rules session before new.told
    by_told None told_is grew = tt
    by_told (Some before) told_is grew =
        let handed : new.handed ≡ Some (record { conn = has.conn; length = length has.bytes }) =
        sym same ∙ known_handed (told_pieces new.told new.wrote new.gives) (pieces_in (journal_of session)) grew (subst (λ (pieces : Option (List Piece)). IfSome pieces (λ list. seen.handed ≡ Some (record { conn = has.conn; length = length has.bytes }))) told has.handed) in
        headed before new seen few went.pieces went.tail (wrote_told old new before (frames went.pieces ++ went.tail) told_is went.writes.wrote)
        (wrote_count old new (frames went.pieces ++ went.tail) none went.writes.count) went.framed (subst (λ b. IsCut b new.handed went.tail) no_more went.cut)
        (subst (λ b. Grew (Some []) (told_pieces new.told new.wrote b) (pieces_in (journal_of session))) no_more grew) has handed

-- at a fault of writing, and at want of memory
heads_at : (rules : Rules) (session : Session) (old new : Output) (seen : Seen) (why : Stop) → old.wrote ≡ 0 → Short new.told → WroteFrames old new → seen.gives ≡ new.gives → seen.handed ≡ new.handed → seen.told.pieces ≡ told_pieces new.told new.wrote new.gives
    → Grew (option_map (λ _. []) old.told) (told_pieces new.told new.wrote new.gives) (pieces_in (journal_of session)) → AtBreak why (HandedLast rules session seen) → AtBreak why (HeadsAt rules session old.told new.told)
heads_at rules session old new seen (stop.Breaks session_break.WriteFault) none few went gives same told grew last = heads_trunk rules session old new seen none few went gives same told grew last
heads_at rules session old new seen (stop.Breaks session_break.Memory) none few went gives same told grew last = λ some. heads_trunk rules session old new seen none few went gives same told grew (last some)
heads_at rules session old new seen (stop.Ends end) none few went gives same told grew last = tt
heads_at rules session old new seen (stop.Breaks session_break.ReadFault) none few went gives same told grew last = tt
heads_at rules session old new seen (stop.Breaks session_break.FileFault) none few went gives same told grew last = tt

-- where a session was broken off, a frame was on one side at most
takes_no_part : (old new : Intake) (list : List LinkEvent) → IsFresh old.phases → old.took ≡ 0 → old.takes ≡ true → Countable new.told → TookFrames old new
    → Grew (option_map (λ _. []) old.told) (told_events new.told new.took new.phases new.takes) list → StaysKnown (upcoming old) (upcoming new) → TakesNoPart old.told new.told list
takes_no_part old new list is_fresh none takes few went grew known = by_told old.told refl grew
  where
    by_told : (before : Option Stream) → old.told ≡ before → Grew (option_map (λ _. []) before) (told_events new.told new.took new.phases new.takes) list → TakesNoPart before new.told list
    by_told None told grew = tt
    by_told (Some before) told grew =
        took_no_part new before list few (has_taken old new before list told is_fresh none few went grew) (known_still old before (upcoming new) told takes known)

breaks_trunk : (old new : Intake) (out later : Output) (events : List LinkEvent) (pieces : List Piece) (why : Stop) → (StaysKnown (upcoming old) (upcoming new) → TakesNoPart old.told new.told events)
    → (later.gives ≡ true → WritesWhole out.told later.told pieces) → AtBreak why (BreaksAt (upcoming old) (upcoming new) later.gives) → BreaksTrunk old.told new.told out.told later.told events pieces (answer_of why)
breaks_trunk old new out later events pieces (stop.Breaks session_break.WriteFault) no_part whole once = no_part once
breaks_trunk old new out later events pieces (stop.Breaks session_break.ReadFault) no_part whole once = whole once
breaks_trunk old new out later events pieces (stop.Breaks session_break.FileFault) no_part whole once = (no_part once.0, whole once.1)
breaks_trunk old new out later events pieces (stop.Breaks session_break.Memory) no_part whole (inl known) = inl (no_part known)
breaks_trunk old new out later events pieces (stop.Breaks session_break.Memory) no_part whole (inr gives) = inr (whole gives)
breaks_trunk old new out later events pieces (stop.Ends session_end.Finished) no_part whole once = tt
breaks_trunk old new out later events pieces (stop.Ends _) no_part whole once = tt

-- what a link shows that has taken so much and given so much
abbrev pub shows_by : Intake → Output → Seen → Seen
shows_by new later rest = record rest {
  told = trunk_told (told_events new.told new.took new.phases new.takes) (told_pieces later.told later.wrote later.gives);
  phases = new.phases;
  coming = upcoming new;
  handed = later.handed;
  takes = new.takes;
  gives = later.gives;
}

-- a trunk of which nothing was taken, and to which nothing was written
pub record StartsTrunk (began : Told) (old : Intake) (out : Output) : Type 0 where
  pub phases : IsFresh old.phases
  pub took : old.took ≡ 0
  pub wrote : out.wrote ≡ 0
  pub takes : old.takes ≡ true
  pub gives : out.gives ≡ true
  pub told : began ≡ told_nothing old.told out.told

-- it goes on by taking frames and writing frames, over a source and a sink that are countable
pub record WentTrunk (old new : Intake) (out later : Output) : Type 0 where
  pub countable : Countable new.told
  pub short : Short later.told
  pub taken : TakesOn old.takes old new
  pub given : GivesOn out.gives out later

recorded_up_to : {R : Type 0} {rules : Rules} {image : Image} {keeping : Keeping} {telling : Telling} {session : SessionState R} (fault : SessionBreak) → keeping_of session ≡ keeping → HasLeft rules image telling session (stop.Breaks fault)
    → IsRecordedUpTo rules image keeping telling (outcome_of (stop.Breaks fault) session)
recorded_up_to {rules = rules} {image = image} {keeping = keeping} {telling = telling} {session = session} fault same left =
    let h = left.holds in
    let account : Session = telling.account in
    record {
      ring = h.paths;
      chained = h.chained;
      checkpoints = h.are;
      stands = stands_of session.cpu.slots.saved;
      ringed = has_ring session.cpu.slots.saved h.paths h.saved;
      handled =
          subst (λ (k : Keeping). HandledAt (stop.Breaks fault) rules image k account.earlier (before_end account) telling.recoveries account.survivor (stands_of session.cpu.slots.saved)) same left.requests;
      oldest = left.oldest;
      oldest_is = left.oldest_is;
      recorded = left.recorded;
    }

recorded_low : {R : Type 0} {rules : Rules} {image : Image} {keeping : Keeping} {telling : Telling} {session : SessionState R} {before now : Option Unnoted} (fault : SessionBreak) → keeping_of session ≡ keeping → HasKept rules image before now telling session
    → IsRecordedLow rules image keeping telling (outcome_of (stop.Breaks fault) session) before now
recorded_low {rules = rules} {image = image} {telling = telling} {session = session} fault same kept =
    let h = kept.holds in
    let account : Session = telling.account in
    record {
      ring = h.paths;
      chained = h.chained;
      checkpoints = h.are;
      stands = stands_of session.cpu.slots.saved;
      ringed = has_ring session.cpu.slots.saved h.paths h.saved;
      handled =
          subst (λ (k : Keeping). HandlesRequests rules image k account.earlier (before_end account) telling.recoveries account.survivor (stands_of session.cpu.slots.saved)) same h.requests;
      oldest = kept.oldest;
      oldest_is = kept.oldest_is;
      recorded = kept.recorded;
      up_to = elim kept.up_to [
        | inl whole ↦ inl whole.1
        | inr fails ↦ inr fails
      ];
    }

-- what is recorded where a session was broken off, by what it left
pub left_recorded : {R : Type 0} (rules : Rules) (image : Image) {keeping : Keeping} (before now : Noted) (telling : Telling) (session : SessionState R) (why : Stop) → keeping_of session ≡ keeping → LeavesBy rules image before.unnoted now.unnoted telling session why
    → AtBreak why (RecordsAt rules image keeping telling (outcome_of why session) before now)
left_recorded rules image before now telling session (stop.Ends end) same left = tt
left_recorded rules image before now telling session (stop.Breaks session_break.ReadFault) same left = recorded_up_to session_break.ReadFault same left
left_recorded rules image before now telling session (stop.Breaks session_break.WriteFault) same left = recorded_up_to session_break.WriteFault same left
left_recorded rules image before now telling session (stop.Breaks session_break.FileFault) same left = recorded_low session_break.FileFault same left
left_recorded rules image before now telling session (stop.Breaks session_break.Memory) same left = recorded_low session_break.Memory same left

-- Over a link events came first, and no pieces: those that a session has before it. What comes is told still.
pub record HeardFirst (rules : Rules) (began at : Seen) : Type 0 where
  pub heard : List Entry
  pub events_are : events_in heard ≡ rules.bounds.before.events
  pub no_pieces : pieces_in heard ≡ []
  pub tells : Tells began.told at.told heard
  pub known : StaysKnown began.coming at.coming

-- so it is where nothing came before it
pub heard_nothing : {rules : Rules} (seen : Seen) → rules.bounds.before ≡ nothing_before → HeardFirst rules seen seen
heard_nothing seen alone = record { heard = []; events_are = ap (λ (before : Before). before.events) (sym alone); no_pieces = refl; tells = tells_nothing seen.told; known = known_same refl }

-- all events that such a link told, and all pieces
events_first : {rules : Rules} {began at : Seen} (now : Option (List LinkEvent)) (entries : List Entry) → HeardFirst rules began at → Grew at.told.events now (events_in entries) → Grew began.told.events now (events_of rules.bounds entries)
events_first {began = began} {at = at} now entries h grew =
    subst (λ (first : List LinkEvent). Grew began.told.events now (first ++ events_in entries)) h.events_are (grew_more began.told.events at.told.events now (events_in h.heard) (events_in entries) h.tells.events grew)

pieces_first : {rules : Rules} {began at : Seen} (now : Option (List Piece)) (list : List Piece) → HeardFirst rules began at → Grew at.told.pieces now list → Grew began.told.pieces now list
pieces_first {began = began} {at = at} now list h grew =
    subst (λ (first : List Piece). Grew began.told.pieces now (first ++ list)) h.no_pieces (grew_more began.told.pieces at.told.pieces now (pieces_in h.heard) list h.tells.pieces grew)

-- what comes was told from its start
known_first : (came : Option SessionEnd) (takes : Bool) (first at now : Option Coming) → StaysKnown first at → IfSome came (λ end. TakesAtEnd takes end × StaysKnown at now) → IfSome came (λ end. TakesAtEnd takes end × StaysKnown first now)
known_first None takes first at now known shows = tt
known_first (Some end) takes first at now known shows = (shows.0, known_then first at now known shows.1)

-- a session over a link that was made, over which events came first
pub watches : (rules : Rules) (keeping : Keeping) (image : Image) {old new : Intake} {out later : Output} (before at rest : Seen) {outcome : Outcome} {noted_before noted_now : Noted} {counted : ℕ} {tables_before tables : Option (List (List Try))}
    → HeardFirst rules (shows_by old out before) at → StartsTrunk (shows_by old out before).told old out → WentTrunk old new out later → LinkAnswers (shows_by old out before) (shows_by new later rest) outcome.stop
    → (watched : HasWatched rules image keeping at (shows_by new later rest) outcome noted_before noted_now counted tables_before tables) → AtBreak outcome.stop (RecordsAt rules image keeping watched.recovered.telling outcome noted_before noted_now)
    → Watches (Trunk old.told new.told out.told later.told) rules keeping image outcome noted_before noted_now counted tables_before tables
watches rules keeping image {old = old} {new = new} {out = out} {later = later} before at rest {outcome = outcome} first starts went answers watched recorded =
    let recovered = watched.recovered in
    let session : Session = recovered.telling.account in
    let took : TookFrames old new = subst (λ b. TakesOn b old new) starts.takes went.taken in
    let wrote : WroteFrames out later = subst (λ b. GivesOn b out later) starts.gives went.given in
    let list = events_of rules.bounds (journal_of session) in
    let given = pieces_in (journal_of session) in
    let events = subst (λ (told : Told). Grew told.events (told_events new.told new.took new.phases new.takes) list) starts.told (events_first (told_events new.told new.took new.phases new.takes) (journal_of session) first recovered.shows.tells.events) in
    let pieces = subst (λ (told : Told). Grew told.pieces (told_pieces later.told later.wrote later.gives) given) starts.told (pieces_first (told_pieces later.told later.wrote later.gives) given first recovered.shows.tells.pieces) in record {
      serves = record {
        coming = upcoming new;
        telling = recovered.telling;
        is = recovered.is;
        recorded = recorded;
        goes = record {
          took = takes_trunk old new list (WasAsked rules session) recovered.shows.asked starts.phases starts.took went.countable took events;
          stops = stops_if rules session session.came old new list starts.phases starts.took starts.takes went.countable took events (known_first session.came new.takes (upcoming old) at.coming (upcoming new) first.known recovered.shows.at_end) recovered.is.is.ended.comes;
          wrote = writes_trunk out later given starts.wrote went.short wrote pieces;
          wrote_whole = end_then outcome.stop (λ still. writes_whole out later given starts.wrote went.short wrote still pieces) answers.gives;
          breaks = breaks_trunk old new out later list given outcome.stop
              (takes_no_part old new list starts.phases starts.took starts.takes went.countable took events)
              (λ is. writes_whole out later given starts.wrote went.short wrote is pieces) answers.once;
          heads = heads_at rules session out later (shows_by new later rest) outcome.stop starts.wrote went.short wrote refl refl refl pieces recovered.handed;
          carried = carries rules.bounds out later (journal_of session) starts.wrote went.short wrote pieces;
        };
      };
      watched = watched.watched;
    }

-- the same, of what source and sink tell by another name
pub watches_at : {rules : Rules} {keeping : Keeping} {image : Image} {source source_now source_later source_later_now : Option Stream} {sink sink_now sink_later sink_later_now : Option (List ℕ)} {outcome : Outcome} {noted_before noted_now : Noted} {counted : ℕ}
    {tables_before tables : Option (List (List Try))} → source ≡ source_now → source_later ≡ source_later_now → sink ≡ sink_now → sink_later ≡ sink_later_now
    → Watches (Trunk source source_later sink sink_later) rules keeping image outcome noted_before noted_now counted tables_before tables
    → Watches (Trunk source_now source_later_now sink_now sink_later_now) rules keeping image outcome noted_before noted_now counted tables_before tables
watches_at {rules = rules} {keeping = keeping} {image = image} {source_now = source_now} {source_later = source_later} {source_later_now = source_later_now} {sink = sink} {sink_now = sink_now} {sink_later = sink_later} {outcome = outcome} {noted_before = noted_before} {noted_now = noted_now} {counted = counted} {tables_before = tables_before} {tables = tables} first second third fourth watches =
    subst (λ (told : Option (List ℕ)). Watches (Trunk source_now source_later_now sink_now told) rules keeping image outcome noted_before noted_now counted tables_before tables) fourth
    (subst (λ (told : Option (List ℕ)). Watches (Trunk source_now source_later_now told sink_later) rules keeping image outcome noted_before noted_now counted tables_before tables) third
    (subst (λ (told : Option Stream). Watches (Trunk source_now told sink sink_later) rules keeping image outcome noted_before noted_now counted tables_before tables) second
    (subst (λ (told : Option Stream). Watches (Trunk told source_later sink sink_later) rules keeping image outcome noted_before noted_now counted tables_before tables) first watches)))
