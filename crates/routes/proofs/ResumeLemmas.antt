-- What a session that takes over over a trunk leaves, by what it leaves over a link.
use Rattle.links.specs.declared.journal.LinkEvent.TheVariants.{Ends as EndOfLink}
use Rattle.session_history.specs.declared.ends.SessionBreak.TheVariants as session_break
use Rattle.session_history.specs.declared.ends.SessionEnd.TheVariants as session_end
use Rattle.session_history.specs.declared.ends.Stop.TheVariants as stop
use Rattle.follow.specs.Plans.{plan_of}
use Rattle.follow.specs.Handed.{Handed}
use Rattle.session_following.specs.declared.unfollowed.Unfollowed.TheVariants as unfollowed
use Rattle.session_following.specs.Answers.{EndsEarly, IsUnlike, NoPlan, OtherAnswer, OtherPlace}
use Rattle.routes.proofs.Terms.{List, None, Option, Some, [], ap, false, inl, inr, option_map, refl, subst, sym, true, ℕ, ◌++◌, ◌∙◌, ◌∷◌, ◌≡◌, ◌⊎◌, Err, IfSome, Ok, Result, Item, Stream, LinkEvent, Coming, Grew, IsNext, Piece, Told, events_in, pieces_in, Seen, GivesOn, Intake, Output, TakesOn, TookFrames, WroteFrames, told_events, told_pieces, Image, Answer, Path, Stop, HasAnswerCause, StaysKnown, answer_of, Rules, Try, Noted, Shown, AsksForMore, heard_alone, rules_behind, AtExit, AtFailure, AtRequest, Stand, Keeping, keeping_of, LinkAnswers, outcome_of, SessionState, Unfollowed, HasEndedBehind, HasEndedThere, IsUnfollowed, IsUnfollowedBy, MismatchesAt, TakesOver, TookOver, stop_as, TookFollowed, ResumesBy, ResumesTrunk, StopsFollowing, TakesUnfollowed, TookApart, answer_as}
use Rattle.routes.proofs.StopLemmas.{HasTaken, drained, took_refused, took_whole}
use Rattle.routes.proofs.ServeLemmas.{StartsTrunk, WentTrunk, has_taken, known_still, left_recorded, shows_by, takes_trunk, upcoming, watches, writes_whole}

-- events alone bring no piece
pieces_alone : (events : List LinkEvent) → pieces_in (heard_alone events) ≡ []
pieces_alone [] = refl
pieces_alone (event ∷ events) = pieces_alone events

-- a session took over, and served on
resumes : {R : Type 0} (rules : Rules) (handed : Handed) (keeping : Keeping) (image : Image) {old new : Intake} {out later : Output} (before there rest : Seen) {shown now : Noted} {counted : ℕ} {tables_before tables : Option (List (List Try))} {session : SessionState R} (why : Stop)
    → StaysKnown (shows_by old out before).coming there.coming → StartsTrunk (shows_by old out before).told old out → WentTrunk old new out later → LinkAnswers (shows_by old out before) (shows_by new later rest) why → keeping_of session ≡ keeping
    → TookOver rules image handed keeping (shows_by old out before).told there (shows_by new later rest) shown now counted tables_before tables session why
    → ResumesTrunk rules handed keeping image old.told new.told out.told later.told (outcome_of why session) shown now counted tables_before tables
resumes rules handed keeping image before there rest {shown = shown} {now = now} {session = session} why known starts went answers kept took =
    let behind : Rules = rules_behind rules handed took.events took.released in
    record {
      events = took.events;
      released = took.released;
      followed = took.followed;
      watches =
          watches behind keeping image before there rest (record { heard = heard_alone took.events; events_are = refl; no_pieces = pieces_alone took.events; tells = took.heard; known = known }) starts went answers took.watched
          (left_recorded behind image shown now took.watched.recovered.telling session why kept took.leaves);
    }

-- nothing came behind the events, or the end of the link
no_end : (last : List LinkEvent) → last ≡ [] → last ≡ EndOfLink ∷ [] → ⊥
no_end last none one = let no : [] ≡ EndOfLink ∷ [] = sym none ∙ one in cc

module _ (rules : Rules) (image : Image) (handed : Handed) (coming : Option Coming) (events last : List LinkEvent) (one : last ≡ EndOfLink ∷ []) where
  behind_comes : (last ≡ []) ⊎ HasEndedBehind rules image handed coming events last → IfSome coming (λ next. IsNext next EndOfLink)
  behind_comes (inl none) = absurd (no_end last none one)
  behind_comes (inr ended) = ended.comes

  there_comes : {path : Path} (stand : Stand rules.limits (plan_of rules.limits.keep handed.episodes) path) → HasEndedThere rules image handed coming events last stand → IfSome coming (λ next. IsNext next EndOfLink)
  there_comes (AtRequest asks) ended = ended.comes
  there_comes (AtExit ended) none = absurd (no_end last none one)
  there_comes (AtFailure cause fails) none = absurd (no_end last none one)

  unlike_comes : {items : List Item} {now : Path} (step : ℕ) (unlike : IsUnlike rules.limits items handed now) → MismatchesAt rules image handed coming events last now step unlike → IfSome coming (λ next. IsNext next EndOfLink)
  unlike_comes step (NoPlan placed) is = absurd (no_end last is.1 one)
  unlike_comes step (OtherAnswer own other) is = absurd (no_end last is.0 one)
  unlike_comes step (OtherPlace finish stand at late apart never) is = behind_comes is.0
  unlike_comes step (EndsEarly stand stuck less) is = there_comes stand is.0

  -- where the link has ended, its end comes
  mismatch_comes : (now : Path) (step : ℕ) → IsUnfollowedBy rules image handed coming events last now (unfollowed.Mismatch step) → IfSome coming (λ next. IsNext next EndOfLink)
  mismatch_comes now step (unlike, is) = unlike_comes step unlike is

  short_comes : (now : Path) (conn : ℕ) → IsUnfollowedBy rules image handed coming events last now (unfollowed.Short conn) → IfSome coming (λ next. IsNext next EndOfLink)
  short_comes now conn (short, is) = behind_comes is.0

-- What was taken where it wasn't released.
module _ (rules : Rules) (image : Image) (handed : Handed) (old new : Intake) (out later : Output) (before rest : Seen) (events last : List LinkEvent) (now : Path) (starts : StartsTrunk (shows_by old out before).told old out) (went : WentTrunk old new out later) where
  abbrev list : List LinkEvent
  list = events_in (heard_alone (events ++ last))

  -- in one of these cases no byte behind the frames
  apart : (first : Stream) → HasTaken new first list → new.takes ≡ true → (last ≡ EndOfLink ∷ [] → IfSome (upcoming new) (λ next. IsNext next EndOfLink)) → TookApart (Some first) new.told events last
  apart first taken still comes = (took_whole new first list taken still, λ ended. drained new.told new.took new.phases new.takes new.refused still (comes ended))

  -- where it stopped
  stopped : (first : Stream) (why : Stop) → old.told ≡ Some first → HasTaken new first list → LinkAnswers (shows_by old out before) (shows_by new later rest) why → (why ≡ stop.Breaks session_break.FileFault → new.takes ≡ true)
      → IsUnfollowedBy rules image handed (upcoming new) events last now (unfollowed.Stops why) → TookFollowed (Some first) new.told list (answer_of why)
  stopped first (stop.Ends session_end.Finished) is taken answers still cause = absurd cause
  stopped first (stop.Ends (session_end.Exited code)) is taken answers still cause = absurd cause
  stopped first (stop.Ends (session_end.GaveUp point why)) is taken answers still cause = absurd cause
  stopped first (stop.Ends (session_end.InputRefused kind offset)) is taken answers still cause =
      took_refused new first list kind offset went.countable taken answers.takes (known_still old first (upcoming new) is starts.takes answers.known) cause.2
  stopped first (stop.Ends (session_end.MessageTooLong conn)) is taken answers still cause = took_whole new first list taken answers.takes
  stopped first (stop.Ends session_end.LimitItems) is taken answers still cause = took_whole new first list taken answers.takes
  stopped first (stop.Ends session_end.LimitEvents) is taken answers still cause = took_whole new first list taken answers.takes
  stopped first (stop.Breaks session_break.ReadFault) is taken answers still cause = tt
  stopped first (stop.Breaks session_break.WriteFault) is taken answers still cause = absurd cause
  stopped first (stop.Breaks session_break.FileFault) is taken answers still cause = took_whole new first list taken (still refl)
  stopped first (stop.Breaks session_break.Memory) is taken answers still cause = tt

  -- by why it wasn't
  takes_so : (first : Stream) (why : Unfollowed) → old.told ≡ Some first → HasTaken new first list → LinkAnswers (shows_by old out before) (shows_by new later rest) (stop_as why)
      → (why ≡ unfollowed.Stops (stop.Breaks session_break.FileFault) → new.takes ≡ true) → IsUnfollowedBy rules image handed (upcoming new) events last now why → TakesUnfollowed (Some first) new.told events last why
  takes_so first (unfollowed.Mismatch step) is taken answers still cause = apart first taken answers.takes (λ ended. mismatch_comes rules image handed (upcoming new) events last ended now step cause)
  takes_so first (unfollowed.Short conn) is taken answers still cause = apart first taken answers.takes (λ ended. short_comes rules image handed (upcoming new) events last ended now conn cause)
  takes_so first (unfollowed.Stops why) is taken answers still cause = stopped first why is taken answers (λ fault. still (ap unfollowed.Stops fault)) cause

  untold : (why : Unfollowed) → TakesUnfollowed None new.told events last why
  untold (unfollowed.Mismatch step) = tt
  untold (unfollowed.Short conn) = tt
  untold (unfollowed.Stops why) = tt

  takes_unfollowed : (why : Unfollowed) → TookFrames old new → Grew (option_map (λ _. []) old.told) (told_events new.told new.took new.phases new.takes) list → LinkAnswers (shows_by old out before) (shows_by new later rest) (stop_as why)
      → (why ≡ unfollowed.Stops (stop.Breaks session_break.FileFault) → new.takes ≡ true) → IsUnfollowedBy rules image handed (upcoming new) events last now why → TakesUnfollowed old.told new.told events last why
  takes_unfollowed why took grew answers still cause = by_told old.told refl grew
    where
      by_told : (told : Option Stream) → old.told ≡ told → Grew (option_map (λ _. []) told) (told_events new.told new.took new.phases new.takes) list → TakesUnfollowed told new.told events last why
      by_told None is grew = untold why
      by_told (Some first) is grew = takes_so first why is (has_taken old new first list is starts.phases starts.took went.countable took grew) answers still cause

-- a session wasn't released
stops : {R : Type 0} (rules : Rules) (handed : Handed) (image : Image) {old new : Intake} {out later : Output} (before rest : Seen) {shown now : Noted} {counted : ℕ} {session : SessionState R} (why : Unfollowed)
    → StartsTrunk (shows_by old out before).told old out → WentTrunk old new out later → LinkAnswers (shows_by old out before) (shows_by new later rest) (stop_as why) → later.gives ≡ true
    → (why ≡ unfollowed.Stops (stop.Breaks session_break.FileFault) → new.takes ≡ true) → (is : IsUnfollowed rules image handed (shows_by old out before).told (shows_by new later rest) shown now counted session why)
    → (new.takes ≡ false → AsksForMore rules image handed is.events)
    → StopsFollowing rules handed image old.told new.told out.told later.told shown now counted session why
stops rules handed image {old = old} {new = new} {out = out} {later = later} before rest why starts went answers gives still is failed =
    let took : TookFrames old new = subst (λ b. TakesOn b old new) starts.takes went.taken in
    let wrote : WroteFrames out later = subst (λ b. GivesOn b out later) starts.gives went.given in
    let heard : List LinkEvent = is.events ++ is.last in
    let events = subst (λ (told : Told). Grew told.events (told_events new.told new.took new.phases new.takes) (events_in (heard_alone heard))) starts.told is.heard.events in
    let pieces = subst (λ (list : List Piece). Grew (option_map (λ _. []) out.told) (told_pieces later.told later.wrote later.gives) list) (pieces_alone heard)
    (subst (λ (told : Told). Grew told.pieces (told_pieces later.told later.wrote later.gives) (pieces_in (heard_alone heard))) starts.told is.heard.pieces) in
    record {
      began = (shows_by old out before).told;
      seen = shows_by new later rest;
      is = is;
      took = takes_trunk old new (events_in (heard_alone heard)) (AsksForMore rules image handed is.events) failed starts.phases starts.took went.countable took events;
      takes = takes_unfollowed rules image handed old new out later before rest is.events is.last is.now starts went why took events answers still is.cause;
      wrote = writes_whole out later [] starts.wrote went.short wrote gives pieces;
    }

module _ {R : Type 0} (rules : Rules) (handed : Handed) (shown now : Shown) (counted : ℕ) (tables_before tables : Option (List (List Try))) (session session_later : SessionState R) where
  -- so it is by its answer
  pub resumes_by : {old new : Intake} {out later : Output} (before rest : Seen) (result : Result Answer Unfollowed) → StartsTrunk (shows_by old out before).told old out → WentTrunk old new out later
      → TakesOver rules handed (shows_by old out before) (shows_by new later rest) shown now counted tables_before tables session session_later result
      → ResumesBy rules handed old.told new.told out.told later.told shown now counted tables_before tables session session_later result
  resumes_by before rest (Ok answered) starts went has = record {
    why = has.why;
    is = has.is;
    served = λ image begun. resumes rules handed _ image before has.there rest has.why has.known starts went has.link has.keeping (has.served image begun);
    notes = has.notes;
  }
  resumes_by before rest (Err why) starts went has = record {
    stopped = λ image begun. stops rules handed image before rest why starts went has.link has.gives has.takes (has.unfollowed image begun) (has.failed image begun);
    tables_same = has.tables_same;
    notes = has.notes;
    unnoted = has.unnoted;
  }

  -- and its cause
  pub resumes_cause : (before seen : Seen) (result : Result Answer Unfollowed) → TakesOver rules handed before seen shown now counted tables_before tables session session_later result → HasAnswerCause before.counts seen.counts (answer_as result)
  resumes_cause before seen (Ok answered) has = subst (λ (end : Answer). HasAnswerCause before.counts seen.counts end) (sym has.is) has.link.cause
  resumes_cause before seen (Err why) has = has.link.cause

-- what holds of what source and sink told and tell, by other names
pub told_at : (P : Option Stream → Option Stream → Option (List ℕ) → Option (List ℕ) → Type 0) {source source_now source_later source_later_now : Option Stream} {sink sink_now sink_later sink_later_now : Option (List ℕ)}
    → source ≡ source_now → source_later ≡ source_later_now → sink ≡ sink_now → sink_later ≡ sink_later_now → P source source_later sink sink_later → P source_now source_later_now sink_now sink_later_now
told_at P {source_now = source_now} {source_later = source_later} {source_later_now = source_later_now} {sink = sink} {sink_now = sink_now} {sink_later = sink_later} first second third fourth holds =
    subst (λ (told : Option (List ℕ)). P source_now source_later_now sink_now told) fourth
    (subst (λ (told : Option (List ℕ)). P source_now source_later_now told sink_later) third
    (subst (λ (told : Option Stream). P source_now told sink sink_later) second
    (subst (λ (told : Option Stream). P told source_later sink sink_later) first holds)))
